-- The course may be told of a request's first byte, where one came, and then that the deadline has passed.
use Rattle.exchange_core.proofs.Stepping.{goes_on}
use Rattle.shard_exchange.proofs.exchange.Exchange.wait_for_request.Goals as goal

pub returns-clause-goes : goal.returns-clause-goes
returns-clause-goes g c = goes_on _ _ _ c.note_begun.ensures.goes c.wait.ensures.goes
