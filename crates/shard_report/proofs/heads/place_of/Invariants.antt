-- The bytes passed, and the place of the byte in the rest, make its place in the text.
use Rattle.std.proofs.Common.{◌≡◌, ◌+◌, drop}
use Rattle.shard_report.specs.Heads.{place_of}
use Rattle.shard_report.proofs.heads.place_of.Given as goal

abbrev pub invariant-loop-other : goal.invariant-loop-other
invariant-loop-other l = (l.at ≡ l.other-index) × (place_of l.byte l.text ≡ l.at + place_of l.byte (drop l.other-index l.text))
