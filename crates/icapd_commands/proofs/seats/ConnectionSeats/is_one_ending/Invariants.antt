-- No connection so far is ending.
use Rattle.std.proofs.Common.{ℕ, ◌<◌}
use Rattle.icapd_commands.specs.declared.seats.Doing.TheVariants.{Ending}
use Rattle.icapd_commands.specs.Seats.{IsAt}
use Rattle.icapd_commands.proofs.seats.ConnectionSeats.is_one_ending.Given as goal

abbrev pub invariant-loop-doing : goal.invariant-loop-doing
invariant-loop-doing l = (k : ℕ) → k < l.doing-index → IsAt l.self.all.items k Ending → ⊥
