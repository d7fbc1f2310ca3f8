-- No key before this one is marked.
use Rattle.std.proofs.Common.{◌≡◌, ℕ, ◌≤◌, true}
use Rattle.event_loop.specs.Marks.{is_marked}
use Rattle.event_loop.proofs.ready_list.ReadyList.first.Given as goal

abbrev pub invariant-loop-key : goal.invariant-loop-key
invariant-loop-key l = (key : ℕ) → is_marked l.self key ≡ true → l.key ≤ key
