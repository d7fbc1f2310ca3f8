-- On the last page, filled in part, the next bytes stand right after those that were there.
use Rattle.std.proofs.Common.{◌≡◌, ◌+◌, ◌%◌, ◌≤◌, ◌++◌, length, take, drop, ap, append_assoc, sym, ◌∙◌, arith}
use Rattle.std.proofs.lemmas.List.{length-take}
use Rattle.span_bank.specs.Chain.{down_of}
use Rattle.span_tape.proofs.PageLemmas.{first_page, length_down}
use Rattle.span_tape.proofs.queue.fill_last.Goals as goal

pub returns-clause-text : goal.returns-clause-text
returns-clause-text c =
    let D = down_of c.pop.new.self in
    let page = c.in-Some.page.value.bytes in
    let n = c.min-done.result in
    let piece = take n c.args.bytes.now in
    let used = c.args.at % 4096 in
    let rest = drop (used + length piece) page in
    let size : length piece ≡ n = omega (arith, length-take n c.args.bytes.now, c.min-done.ensures) in
    let old = c.in-Some.ensures.some.1 in
    let count = ap (λ x. length x) old in
    let front : length D + used ≡ c.args.at = omega (
      arith,
      length_down c.pop.new.self,
      c.count-whole.ensures.text,
      c.requires.count,
      count,
    ) in
    let low : used ≤ length page = omega (arith, c.in-Some.ensures.size) in
    ap (λ k. take (c.args.at + k) (down_of c.put_last.new.back)) (sym size)
    ∙ ap (λ x. take (c.args.at + length piece) x) c.put_last.ensures.text
    ∙ ap (λ x. take (c.args.at + length piece) (D ++ x)) (append_assoc (take used page) piece rest)
    ∙ first_page D page piece rest c.args.at used front low
    ∙ ap (λ x. take c.args.at (down_of x) ++ piece) (sym old)
