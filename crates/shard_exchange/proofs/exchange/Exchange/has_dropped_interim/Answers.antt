-- Past the deadline the course is told that the origin was heard, and then that the message fails: both may come.
use Rattle.exchange_core.proofs.Stepping.{goes_on}
use Rattle.shard_exchange.proofs.exchange.Exchange.has_dropped_interim.Goals as goal

pub returns-then-is_late-clause-goes : goal.returns-then-is_late-clause-goes
returns-then-is_late-clause-goes g c = goes_on _ _ _ c.note_heard.ensures.goes c.refuse.ensures.goes
