-- The reservations that are left hold nothing and have no page, and become fewer with each turn.
use Rattle.std.proofs.Common.{All, vec_len}
use Rattle.shard_loop.specs.Left.{HoldsNothing}
use Rattle.shard_loop.proofs.left.end_stakes.Given as goal

abbrev pub invariant-loop-stake : goal.invariant-loop-stake
invariant-loop-stake g l = All HoldsNothing l.stakes.items

abbrev pub decreases-loop-stake : goal.decreases-loop-stake
decreases-loop-stake g l = vec_len l.stakes
