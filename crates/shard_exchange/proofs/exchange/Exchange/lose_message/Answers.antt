-- A message that waits in the queue leaves it before its user is taken for gone.
use Rattle.shard_exchange.proofs.exchange.Exchange.lose_message.Goals as goal

-- the message left the queue before its user is taken for gone
pub returns-else-is_moving-clause-left : goal.returns-else-is_moving-clause-left
returns-else-is_moving-clause-left g c = λ point queued. (c.leave_queue.new.out, c.leave_queue.ensures point queued)
