-- The leases that are left become fewer with each turn.
use Rattle.std.proofs.Common.{vec_len}
use Rattle.shard_loop.proofs.left.end_leases.Given as goal

abbrev pub decreases-loop-lease : goal.decreases-loop-lease
decreases-loop-lease g l = vec_len l.leases
