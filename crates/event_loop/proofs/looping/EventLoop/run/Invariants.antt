-- The turns so far were orderly.
use Rattle.event_loop.specs.Turns.{IsTied}
use Rattle.event_loop.proofs.Running.{HasRun}
use Rattle.event_loop.proofs.looping.EventLoop.run.Given as goal

abbrev pub invariant-loop : goal.invariant-loop
invariant-loop g l = IsTied g.K.Work l.fn.self → HasRun g.K.Work l.fn.self l.self
