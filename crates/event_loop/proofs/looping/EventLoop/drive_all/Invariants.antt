-- Each exchange so far gets a turn.
use Rattle.std.proofs.Common.{ℕ, ◌<◌}
use Rattle.event_loop.specs.Turns.{Did, Gets}
use Rattle.event_loop.proofs.looping.EventLoop.drive_all.Given as goal

abbrev pub invariant-loop-key : goal.invariant-loop-key
invariant-loop-key g l = Did g.K.Work l.fn.self l.self (λ deeds. (key : ℕ) → key < l.key → Gets key deeds l.self.ready)
