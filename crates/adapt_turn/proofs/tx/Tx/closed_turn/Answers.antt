-- Where no refusal is due a closed transaction stays as it is, and what stands goes on.
use Rattle.adapt_turn.proofs.Together.{goes_none}
use Rattle.adapt_turn.proofs.tx.Tx.closed_turn.Goals as goal

pub returns-then-not-self-clause-goes : goal.returns-then-not-self-clause-goes
returns-then-not-self-clause-goes g c = goes_none
