-- Each exchange so far that had a mark was driven, and the marks of all others stand.
use Rattle.event_loop.specs.Turns.{Did}
use Rattle.event_loop.proofs.Turning.{ReadyBelow}
use Rattle.event_loop.proofs.looping.EventLoop.drive_marked.Given as goal

abbrev pub invariant-loop-key : goal.invariant-loop-key
invariant-loop-key g l = Did g.K.Work l.fn.self l.self (ReadyBelow l.fn.self.ready l.self.ready l.key)
