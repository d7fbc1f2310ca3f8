-- The offset is within the text, and no LF stands from there to the end; it falls at each turn.
use Rattle.std.proofs.Common.{◌≢◌, ℕ, ◌<◌, ◌≤◌, length, slice_index}
use Rattle.icap_head.proofs.line_front.last_line.Given as goal

abbrev pub invariant-loop-start : goal.invariant-loop-start
invariant-loop-start l = (l.start ≤ length l.text) × ((k : ℕ) → l.start ≤ k → k < length l.text → slice_index l.text k ≢ 10)

abbrev pub decreases-loop-start : goal.decreases-loop-start
decreases-loop-start l = l.start
