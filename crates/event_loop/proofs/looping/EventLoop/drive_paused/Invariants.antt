-- No turn ended.
use Rattle.std.specs.Prelude.{⊤}
use Rattle.event_loop.specs.Turns.{Did}
use Rattle.event_loop.proofs.looping.EventLoop.drive_paused.Given as goal

abbrev pub invariant-loop-key : goal.invariant-loop-key
invariant-loop-key g l = Did g.K.Work l.fn.self l.self (λ deeds. ⊤)
