-- Each piece on the tape is held on a page of its own: one more in each step, and as many after each round.
use Rattle.std.proofs.Common.{◌≡◌, ◌+◌, ◌*◌, length}
use Rattle.layer_bench.proofs.budget.time_tape.Given as goal

-- so many pieces are held, on a page each
abbrev pub invariant-loop-piece : goal.invariant-loop-piece
invariant-loop-piece g l =
    (l.stake ≡ record { held = 4096 * l._piece; claim = 4096 * (l.kept + 1); pages = l._piece })
    × (length l.tape.bytes ≡ 4096 * l._piece) × (l.tape.start ≡ 0) × (l.tape.base ≡ 0)

-- a round leaves as many
abbrev pub invariant-loop-round : goal.invariant-loop-round
invariant-loop-round g l =
    (l.stake ≡ record { held = 4096 * l.kept; claim = 4096 * (l.kept + 1); pages = l.kept })
    × (length l.tape.bytes ≡ 4096 * l.kept) × (l.tape.start ≡ 0) × (l.tape.base ≡ 4096 * l._round)
