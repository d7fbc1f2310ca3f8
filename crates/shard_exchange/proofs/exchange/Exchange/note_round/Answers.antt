-- The course may be told that an answer began, and then that the service has said all.
use Rattle.exchange_core.proofs.Stepping.{goes_on}
use Rattle.shard_exchange.proofs.exchange.Exchange.note_round.Goals as goal

pub returns-then-begins-clause-goes : goal.returns-then-begins-clause-goes
returns-then-begins-clause-goes g c = goes_on _ _ _ c.note_answer-begins.ensures.goes c.note_service-frees.ensures.goes
