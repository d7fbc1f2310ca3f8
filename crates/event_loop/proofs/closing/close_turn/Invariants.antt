-- What was read so far took nothing back: the wire answered Wait as often as before, or more often.
use Rattle.std.specs.Prelude.{◌≤◌, length}
use Rattle.std.proofs.Common.{◌≡◌}
use Rattle.wire_kit.specs.Past.{Past}
use Rattle.event_loop.proofs.closing.close_turn.Given as goal

abbrev pub invariant-loop : goal.invariant-loop
invariant-loop g l = record {
  room : length l.scratch ≡ length l.initial.scratch;
  past : (p : Past) → g.W.Wire.past l.initial.wire p → (q : Past) × g.W.Wire.past l.wire q × (p.read_waits ≤ q.read_waits);
}
