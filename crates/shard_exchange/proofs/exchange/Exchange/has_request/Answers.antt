-- The course may be told that a head began, where it didn't know, and then that the request was read.
use Rattle.exchange_core.proofs.Stepping.{goes_on}
use Rattle.shard_exchange.proofs.exchange.Exchange.has_request.Goals as goal

pub returns-clause-goes : goal.returns-clause-goes
returns-clause-goes g c = goes_on _ _ _ c.begin_head.ensures.goes c.done.ensures.goes
