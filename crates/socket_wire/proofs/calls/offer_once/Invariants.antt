-- The offers so far left no trace: each past that was possible before still is.
use Rattle.wire_kit.specs.Past.{Past}
use Rattle.socket_wire.proofs.calls.offer_once.Given as goal

-- each round's call left no trace
abbrev pub invariant-loop : goal.invariant-loop
invariant-loop g l = (p : Past) → g.S.Calls.calls l.initial.stream p → g.S.Calls.calls l.stream p
