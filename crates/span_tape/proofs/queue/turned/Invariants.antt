-- The pages left and the turned ones have together the chain's text, in either order, and all of its pages.
use Rattle.std.specs.Prelude.{◌≡◌, ◌+◌, ◌++◌, length}
use Rattle.span_bank.specs.Chain.{text_of, down_of}
use Rattle.span_tape.proofs.queue.turned.Given as goal

abbrev pub invariant-loop-page : goal.invariant-loop-page
invariant-loop-page l =
    (length l.turned + length l.chain ≡ length l.initial.chain)
    × (down_of l.chain ++ text_of l.turned ≡ down_of l.initial.chain)
    × (down_of l.turned ++ text_of l.chain ≡ text_of l.initial.chain)

abbrev pub decreases-loop-page : goal.decreases-loop-page
decreases-loop-page l = length l.chain
