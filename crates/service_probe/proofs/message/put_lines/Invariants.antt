-- The body so far, and as many lines as are still left, make the whole body.
use Rattle.std.proofs.Common.{◌≡◌, ◌++◌, ◌-◌}
use Rattle.service_probe.specs.Messages.{lines}
use Rattle.service_probe.proofs.message.put_lines.Given as goal

abbrev pub invariant-loop-line : goal.invariant-loop-line
invariant-loop-line l = l.body.items ++ lines (l.count - l._line) ≡ l.initial.body.items ++ lines l.count
