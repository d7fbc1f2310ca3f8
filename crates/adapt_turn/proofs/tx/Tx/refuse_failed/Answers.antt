-- After a pass that didn't fail no refusal is put, and what stands goes on.
use Rattle.adapt_turn.proofs.Together.{goes_none}
use Rattle.adapt_turn.proofs.tx.Tx.refuse_failed.Goals as goal

pub returns-in-None-clause-goes : goal.returns-in-None-clause-goes
returns-in-None-clause-goes g c = goes_none
