-- The bytes passed, and those of empty lines with which the rest begins, make the number.
use Rattle.std.proofs.Common.{◌≡◌, ◌+◌, drop}
use Rattle.shard_report.specs.Heads.{empty_lines}
use Rattle.shard_report.proofs.heads.empty_lines.Given as goal

abbrev pub invariant-loop-byte : goal.invariant-loop-byte
invariant-loop-byte l = (l.at ≡ l.byte-index) × (empty_lines l.text ≡ l.at + empty_lines (drop l.byte-index l.text))
