-- Where the place is before the end, the tape has just its bytes from there on.
use Rattle.std.proofs.Common.{◌≤◌, ◌+◌, arith, length}
use Rattle.span_tape.proofs.PageLemmas.{dropped_of, before_end}
use Rattle.span_tape.proofs.tape.SpanTape.drop_to.Goals as goal

pub returns-then-gone-self-clause-tape : goal.returns-then-gone-self-clause-tape
returns-then-gone-self-clause-tape c =
    let s = c.self.inside in
    let v = c.self.invariant in
    let long : s.start + s.len ≤ length s.pages.text = omega (arith, v) in
    dropped_of c.args.self.now s.base s.start s.len c.args.place s.pages.text c.take_first.new.self.text c.self.view_is
    (omega (arith, c.if-gone-self.true)) (before_end s.pages.text s.base s.start s.len c.args.place long c.if-gone-self.true)
    c.take_first.ensures.text
