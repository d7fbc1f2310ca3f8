-- The lines that have ended so far and those still to end make the count, and some are still to end.
use Rattle.std.proofs.Common.{◌≡◌, ◌+◌, ◌<◌, take}
use Rattle.icap_head.specs.FieldLines.{line_count}
use Rattle.icap_head.proofs.field_lines.lines_end.Given as goal

abbrev pub invariant-loop-at : goal.invariant-loop-at
invariant-loop-at l = (0 < l.left) × (line_count (take l.at l.text) + l.left ≡ l.count)
