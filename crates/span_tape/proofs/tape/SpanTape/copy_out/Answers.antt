-- What is copied are the tape's bytes from the place on, and the buffer after them stays as it was.
use Rattle.std.proofs.Common.{◌≡◌, ◌≤◌, ◌+◌, ◌-◌, ◌++◌, take, drop, length, ap, ◌∙◌, arith}
use Rattle.std.proofs.lemmas.List.{length-take}
use Rattle.span_tape.proofs.PageLemmas.{copied_of}
use Rattle.span_tape.proofs.tape.SpanTape.copy_out.Goals as goal

pub returns-clause-copied : goal.returns-clause-copied
returns-clause-copied c =
    let s = c.self.inside in
    let n = c.min-count.result in
    let few : n ≤ s.len - (c.args.from - s.base) = omega (arith, c.min-count.ensures) in
    let fits : n ≤ length c.args.out.now = omega (arith, c.min-count.ensures) in
    let size : length (take n c.args.out.now) ≡ n = omega (arith, length-take n c.args.out.now, fits) in
    ap (λ l. l ++ drop n c.args.out.now)
    (c.copy_out.ensures ∙ ap (λ k. take k (drop (s.start + (c.args.from - s.base)) s.pages.text)) size
    ∙ copied_of c.args.self.now s.base s.start s.len c.args.from n s.pages.text c.self.view_is c.requires.high few)
