-- Those not passed are as they were; a younger one that stayed leads elsewhere or is unsure, one that went leads there and is unfit.
use Rattle.std.proofs.Common.{◌≡◌, ◌-◌, ◌⊎◌, Some, length}
use Rattle.std.specs.VecDeque.{deque_capacity}
use Rattle.shard_desk.specs.Kept.{IsUnfit, IsUnsure}
use Rattle.shard_desk.proofs.Sifting.{Walked}
use Rattle.shard_desk.proofs.kept.IdleConnections.take_by.Given as goal

abbrev pub invariant-loop-passed : goal.invariant-loop-passed
invariant-loop-passed g l = record {
  walked : Walked (λ idle. (g.C.Rests.place idle ≡ Some l.address → ⊥) ⊎ IsUnsure (g.C.Rests.unsure l.at.turn) l.asking idle)
      (λ idle. (g.C.Rests.place idle ≡ Some l.address) × IsUnfit g.C.Rests.since g.C.Rests.loud l.at.now l.seconds idle)
      l.initial.self.all.items l.self.all.items (l.count - l.passed);
  counted : l.count ≡ length l.initial.self.all.items;
  capacity : deque_capacity l.self.all ≡ deque_capacity l.initial.self.all;
  most : l.self.most ≡ l.initial.self.most;
}
