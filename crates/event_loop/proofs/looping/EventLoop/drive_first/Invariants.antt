-- Each queue so far was asked.
use Rattle.std.proofs.Common.{ℕ, ◌<◌}
use Rattle.event_loop.specs.Turns.{Did, IsAsked}
use Rattle.event_loop.proofs.looping.EventLoop.drive_first.Given as goal

abbrev pub invariant-loop-queue : goal.invariant-loop-queue
invariant-loop-queue g l = Did g.K.Work l.fn.self l.self (λ deeds. (queue : ℕ) → queue < l.queue → IsAsked queue deeds l.self.ready)
