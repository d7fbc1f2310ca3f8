-- Each exchange that had a mark was driven.
use Rattle.std.proofs.Common.{◌≡◌, ℕ, true}
use Rattle.event_loop.specs.Marks.{is_marked}
use Rattle.event_loop.specs.Turns.{Did, IsDriven}
use Rattle.event_loop.proofs.looping.EventLoop.drive_ready.Given as goal

abbrev pub invariant-loop-pass : goal.invariant-loop-pass
invariant-loop-pass g l = Did g.K.Work l.fn.self l.self (λ deeds. (key : ℕ) → is_marked l.fn.self.ready key ≡ true → IsDriven key deeds)
