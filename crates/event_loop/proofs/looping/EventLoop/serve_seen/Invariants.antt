-- The events so far were noted, and nothing else was done.
use Rattle.std.proofs.Common.{take}
use Rattle.event_loop.specs.Turns.{Did, AreServed, AreNotes}
use Rattle.event_loop.proofs.looping.EventLoop.serve_seen.Given as goal

abbrev pub invariant-loop-at : goal.invariant-loop-at
invariant-loop-at g l = Did g.K.Work l.fn.self l.self (λ deeds. AreServed (take l.at l.fn.self.reports.seen.items) l.woken deeds
    l.self.ready × AreNotes deeds)
