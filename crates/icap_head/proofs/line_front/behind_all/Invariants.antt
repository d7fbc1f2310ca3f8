-- A line that is at the first place is, with the bytes so far after it, at the place that is reached.
use Rattle.std.proofs.Common.{ℕ, ◌++◌, List, take}
use Rattle.icap_head.specs.LineFront.{IsAt}
use Rattle.icap_head.proofs.line_front.behind_all.Given as goal

abbrev pub invariant-loop-byte : goal.invariant-loop-byte
invariant-loop-byte l = (line : List ℕ) → IsAt l.fn.place line → IsAt l.next (line ++ take l.byte-index l.bytes)
