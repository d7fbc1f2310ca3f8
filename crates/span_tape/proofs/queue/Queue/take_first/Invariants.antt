-- As many pages are given as turns were made; the queue has the others, with the text after the given ones.
use Rattle.std.specs.Prelude.{◌≡◌, ◌+◌, ◌*◌, drop}
use Rattle.span_tape.proofs.queue.Queue.take_first.Given as goal

abbrev pub invariant-loop-i : goal.invariant-loop-i
invariant-loop-i l =
    (l.given ≡ l._i) × (l.self.count + l._i ≡ l.initial.self.count)
    × (l.self.text ≡ drop (4096 * l._i) l.initial.self.text)
