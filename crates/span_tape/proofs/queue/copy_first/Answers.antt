-- A part of a page is copied after what was copied before; where bytes are still missing, the text goes on at the next page.
use Rattle.std.proofs.Common.{◌≡◌, ℕ, ◌+◌, ◌-◌, ◌≤◌, List, length, take, drop, ap, ◌∙◌, subst, arith}
use Rattle.span_bank.specs.Chain.{text_of}
use Rattle.span_tape.proofs.PageLemmas.{another_copied, next_text}
use Rattle.span_tape.proofs.queue.copy_first.Goals as goal

pub loop-done-preserved : goal.loop-done-preserved
loop-done-preserved c =
    let l = c.loop-done in
    let T = text_of c.args.front.now in
    let P = c.in-Some-first.page.now.bytes in
    let N = c.in-Some-first.next.now in
    let r = c.copy_page-done.result in
    let m = r - l.done in
    let h = c.copy_page-done.ensures in
    let i = l.invariant in
    let test = c.loop-done-test.true in
    let part = i.3 test in
    let Q : List (List ℕ) → Type 0 = λ x. drop l.from (text_of x) ≡ drop (c.args.at + l.done) T in
    let here = subst Q c.in-Some-first.ensures.some part.1 in
    let more = ap (λ x. length x) c.in-Some-first.ensures.some in
    let on : l.done + m ≡ r = omega (arith, h.count, test, i.1) in
    let fits : l.from + m ≤ 4096 = omega (arith, h.count, i.1) in (
      omega (arith, h.count, h.all),
      omega arith,
      h.all ∙ i.2,
      λ lt. (
        omega (arith, part.0, more, h.all, h.count, lt),
        next_text T P (text_of N) c.args.at l.from l.done m h.size (omega (arith, h.count, lt, h.all, i.1, test)) here
            ∙ ap (λ k. drop (c.args.at + k) T) on,
      ),
      another_copied T P (text_of N) l.out _ c.args.at l.from l.done m h.size fits here i.4 h.text ∙ ap (λ k. take k (drop c.args.at T)) on,
    )
