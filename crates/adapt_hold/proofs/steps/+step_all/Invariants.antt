-- The events that are left become fewer with each call.
use Rattle.std.proofs.Common.{length}
use Rattle.adapt_hold.proofs.steps.+step_all.Given as goal

abbrev pub decreases-step_all : goal.decreases-step_all
decreases-step_all g l = length l.events.now
