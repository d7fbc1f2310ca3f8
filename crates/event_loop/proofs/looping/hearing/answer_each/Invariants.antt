-- The work has answered some of them.
use Rattle.event_loop.specs.Turns.{Answers}
use Rattle.event_loop.proofs.looping.hearing.answer_each.Given as goal

abbrev pub invariant-loop-key : goal.invariant-loop-key
invariant-loop-key g l = Answers g.K.Work l.fn.work l.work
