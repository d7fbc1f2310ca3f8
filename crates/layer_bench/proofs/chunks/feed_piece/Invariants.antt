-- Each turn leaves fewer bytes of the piece.
use Rattle.std.proofs.Common.{length}
use Rattle.layer_bench.proofs.chunks.feed_piece.Given as goal

abbrev pub decreases-loop-rest : goal.decreases-loop-rest
decreases-loop-rest l = length l.rest
