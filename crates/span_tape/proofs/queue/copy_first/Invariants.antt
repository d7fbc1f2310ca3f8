-- The pages before the place are passed; then the bytes so far are copied, and the pages left go on right after them.
use Rattle.std.specs.Prelude.{◌≡◌, ◌+◌, ◌-◌, ◌*◌, ◌≤◌, ◌<◌, length, take, drop}
use Rattle.span_bank.specs.Chain.{text_of}
use Rattle.span_tape.proofs.queue.copy_first.Given as goal

abbrev pub invariant-loop-i : goal.invariant-loop-i
invariant-loop-i l =
    (text_of l.rest ≡ drop (4096 * l._i) (text_of l.front))
    × (length l.rest + l._i ≡ length l.front)

abbrev pub invariant-loop-done : goal.invariant-loop-done
invariant-loop-done l =
    (l.done ≤ length l.out) × (l.from < 4096)
    × (length l.out ≡ length l.fn.out)
    × (l.done < length l.out → (l.from + (length l.out - l.done) ≤ 4096 * length l.rest)
    × (drop l.from (text_of l.rest) ≡ drop (l.at + l.done) (text_of l.front)))
    × (take l.done l.out ≡ take l.done (drop l.at (text_of l.front)))

abbrev pub decreases-loop-done : goal.decreases-loop-done
decreases-loop-done l = length l.out - l.done
