-- No seat so far has a connection with its last answer.
use Rattle.std.proofs.Common.{ℕ, ◌<◌}
use Rattle.icapd_commands.specs.declared.seats.Doing.TheVariants.{Lingering}
use Rattle.icapd_commands.specs.Seats.{IsAt}
use Rattle.icapd_commands.proofs.seats.ConnectionSeats.lingering.Given as goal

abbrev pub invariant-loop-key : goal.invariant-loop-key
invariant-loop-key l = (k : ℕ) → k < l.key → IsAt l.self.all.items k Lingering → ⊥
