-- No key from the end found so far on is marked, and that end isn't above the old one.
use Rattle.std.proofs.Common.{◌≡◌, ℕ, ◌-◌, ◌<◌, ◌≤◌, true}
use Rattle.event_loop.specs.Marks.{is_marked}
use Rattle.event_loop.proofs.ready_list.ReadyList.end.Given as goal

abbrev pub invariant-loop-end : goal.invariant-loop-end
invariant-loop-end l = ((key : ℕ) → is_marked l.self key ≡ true → key < l.end) × (l.end ≤ l.self.high)

abbrev pub decreases-loop-end : goal.decreases-loop-end
decreases-loop-end l = l.end - l.self.low
