-- Fewer events of the script are left after each.
use Rattle.std.proofs.Common.{length}
use Rattle.world_ties.proofs.sending.+run_alone.Given as goal

abbrev pub decreases-run_alone : goal.decreases-run_alone
decreases-run_alone g l = length l.script.now
