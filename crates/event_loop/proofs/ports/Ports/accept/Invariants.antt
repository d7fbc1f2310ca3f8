-- The users so far were handed out.
use Rattle.std.proofs.Common.{◌≡◌}
use Rattle.event_loop.specs.Mail.{HandsOut}
use Rattle.event_loop.proofs.ports.Ports.accept.Given as goal

abbrev pub invariant-loop : goal.invariant-loop
invariant-loop g l = record {
  out : HandsOut g.M.Mail l.fn.mail l.mail l.own l.fn.self.loops l.fn.self.accepted l.self.accepted l.came;
  loops : l.self.loops ≡ l.fn.self.loops;
}
