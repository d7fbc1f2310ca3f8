-- A message in the queue leaves it; the course may take the stop, and after that the close of the origin's connection.
use Rattle.exchange_core.proofs.Stepping.{goes_on}
use Rattle.shard_exchange.proofs.exchange.Exchange.stop_unmoved.Goals as goal

pub returns-clause-goes : goal.returns-clause-goes
returns-clause-goes g c = goes_on _ _ _ c.take_stop.ensures.goes c.leave_origin.ensures.goes

pub returns-clause-left : goal.returns-clause-left
returns-clause-left g c = λ point queued out. (c.leave_queue.new.out, c.leave_queue.ensures point queued)
