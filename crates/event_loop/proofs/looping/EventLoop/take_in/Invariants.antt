-- The users so far were taken in.
use Rattle.std.specs.Prelude.{All}
use Rattle.event_loop.specs.Turns.{Did, IsAdmitted}
use Rattle.event_loop.proofs.looping.EventLoop.take_in.Given as goal

abbrev pub invariant-loop-user : goal.invariant-loop-user
invariant-loop-user g l = Did g.K.Work l.fn.self l.self (λ deeds. All (λ user. IsAdmitted user.number deeds l.self.ready) l.yielded)
