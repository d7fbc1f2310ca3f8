-- A message that waits in the queue leaves it before its user is refused.
use Rattle.shard_exchange.proofs.exchange.Exchange.refuse_queued.Goals as goal

-- the message left the queue before its user is refused
pub returns-clause-left : goal.returns-clause-left
returns-clause-left g c = λ point queued out none. (c.leave_queue.new.out, c.leave_queue.ensures point queued)
