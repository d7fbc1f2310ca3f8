-- The pages left are the first ones, and the bytes after those still missing are copied already.
use Rattle.std.specs.Prelude.{◌≡◌, ◌+◌, ◌-◌, ◌*◌, ◌≤◌, ◌<◌, length, take, drop}
use Rattle.span_bank.specs.Chain.{down_of}
use Rattle.span_tape.proofs.queue.copy_last.Given as goal

-- the pages that are left are the first ones
abbrev pub invariant-loop-i : goal.invariant-loop-i
invariant-loop-i l =
    (length l.rest + l._i ≡ length l.back)
    × (down_of l.rest ≡ take (4096 * length l.rest) (down_of l.back))

-- the bytes after those that are missing stand already; the next one before them is on the last page that is left
abbrev pub invariant-loop-left : goal.invariant-loop-left
invariant-loop-left l =
    (l.left ≤ length l.out) × (length l.out ≡ length l.fn.out)
    × (0 < l.left → (l.at + l.left ≤ 4096 * length l.rest) × (4096 * length l.rest < l.at + l.left + 4096))
    × (down_of l.rest ≡ take (4096 * length l.rest) (down_of l.back))
    × (drop l.left l.out ≡ take (length l.out - l.left) (drop (l.at + l.left) (down_of l.back)))

abbrev pub decreases-loop-left : goal.decreases-loop-left
decreases-loop-left l = l.left
