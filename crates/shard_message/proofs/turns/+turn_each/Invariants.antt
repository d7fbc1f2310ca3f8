-- Each call has fewer sides left to turn.
use Rattle.std.proofs.Common.{length}
use Rattle.shard_message.proofs.turns.+turn_each.Given as goal

abbrev pub decreases-turn_each : goal.decreases-turn_each
decreases-turn_each g l = length l.sides.now
