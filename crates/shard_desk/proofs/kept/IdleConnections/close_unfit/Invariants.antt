-- Those not passed yet are as they were; a younger one that stayed is fit or not heard of yet, one that went is unfit.
use Rattle.std.proofs.Common.{◌≡◌, ◌-◌, ◌⊎◌, length}
use Rattle.std.specs.VecDeque.{deque_capacity}
use Rattle.shard_desk.specs.Kept.{IsFit, IsUnfit}
use Rattle.shard_desk.proofs.Sifting.{Walked}
use Rattle.shard_desk.proofs.kept.IdleConnections.close_unfit.Given as goal

abbrev pub invariant-loop-passed : goal.invariant-loop-passed
invariant-loop-passed g l = record {
  walked : Walked (λ idle. IsFit g.C.Rests.since g.C.Rests.quiet l.at.now l.seconds idle ⊎ g.C.Rests.unsure l.at.turn idle)
      (IsUnfit g.C.Rests.since g.C.Rests.loud l.at.now l.seconds)
      l.initial.self.all.items l.self.all.items (l.count - l.passed);
  counted : l.count ≡ length l.initial.self.all.items;
  capacity : deque_capacity l.self.all ≡ deque_capacity l.initial.self.all;
  most : l.self.most ≡ l.initial.self.most;
}
