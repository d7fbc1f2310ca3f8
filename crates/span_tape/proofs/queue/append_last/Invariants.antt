-- The bytes so far stand right after the old ones, on as many pages as they need; these are full where more are to come.
use Rattle.std.specs.Prelude.{◌≡◌, ◌+◌, ◌-◌, ◌*◌, ◌≤◌, ◌<◌, ◌++◌, length, take}
use Rattle.span_bank.specs.Chain.{down_of}
use Rattle.span_tape.specs.Tape.{page_count}
use Rattle.span_tape.proofs.queue.append_last.Given as goal

-- so many bytes stand after the first ones, and where more are to come the pages are full
abbrev pub invariant-loop-done : goal.invariant-loop-done
invariant-loop-done l =
    (l.done ≤ length l.bytes)
    × (l.pages + length l.back ≡ l.fn.pages + length l.fn.back)
    × (length l.back ≡ page_count (l.at + l.done))
    × (l.done < length l.bytes → l.at + l.done ≡ 4096 * length l.back)
    × (take (l.at + l.done) (down_of l.back) ≡ take l.at (down_of l.fn.back) ++ take l.done l.bytes)

abbrev pub decreases-loop-done : goal.decreases-loop-done
decreases-loop-done l = length l.bytes - l.done
