-- No seat so far is free.
use Rattle.std.proofs.Common.{ℕ, ◌<◌}
use Rattle.icapd_commands.specs.declared.seats.Doing.TheVariants.{Nothing}
use Rattle.icapd_commands.specs.Seats.{IsAt}
use Rattle.icapd_commands.proofs.seats.ConnectionSeats.free.Given as goal

abbrev pub invariant-loop-key : goal.invariant-loop-key
invariant-loop-key l = (k : ℕ) → k < l.key → IsAt l.self.all.items k Nothing → ⊥
