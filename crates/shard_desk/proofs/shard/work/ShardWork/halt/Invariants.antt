-- There are as many slots as before.
use Rattle.std.proofs.Common.{◌≡◌, length}
use Rattle.shard_desk.proofs.shard.work.ShardWork.halt.Given as goal

abbrev pub invariant-loop-key : goal.invariant-loop-key
invariant-loop-key g l = (length l.self.slots.all.items ≡ length l.fn.self.slots.all.items) × (l.self.queues ≡ l.fn.self.queues)
