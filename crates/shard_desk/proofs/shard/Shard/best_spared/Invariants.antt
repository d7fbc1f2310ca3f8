-- No slot is touched.
use Rattle.std.proofs.Common.{◌≡◌}
use Rattle.shard_desk.proofs.shard.Shard.best_spared.Given as goal

abbrev pub invariant-loop-key : goal.invariant-loop-key
invariant-loop-key g l = (l.self.slots ≡ l.initial.self.slots) × (l.self.queues ≡ l.initial.self.queues)
