-- No turn has ended.
use Rattle.event_loop.specs.Turns.{WorksOn}
use Rattle.event_loop.proofs.looping.EventLoop.take_leave.Given as goal

abbrev pub invariant-loop : goal.invariant-loop
invariant-loop g l = WorksOn g.K.Work l.fn.self.work l.self.work
