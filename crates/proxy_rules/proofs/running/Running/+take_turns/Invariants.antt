-- Fewer turns are left after each.
use Rattle.std.proofs.Common.{length}
use Rattle.proxy_rules.proofs.running.Running.+take_turns.Given as goal

abbrev pub decreases-take_turns : goal.decreases-take_turns
decreases-take_turns g l = length l.turns.now
