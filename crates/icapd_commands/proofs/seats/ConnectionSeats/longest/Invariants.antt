-- The longest of the seats so far.
use Rattle.icapd_commands.proofs.Waiters.{LongestBelow}
use Rattle.icapd_commands.proofs.seats.ConnectionSeats.longest.Given as goal

abbrev pub invariant-loop-key : goal.invariant-loop-key
invariant-loop-key l = LongestBelow l.self.all.items l.first l.key l.found
