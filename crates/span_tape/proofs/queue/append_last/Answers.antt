-- On one more page the next bytes stand right after those on full pages.
use Rattle.std.proofs.Common.{◌≡◌, ◌+◌, ◌-◌, ◌≤◌, ◌++◌, length, take, drop, ap, ◌∙◌, arith}
use Rattle.span_bank.specs.Chain.{down_of}
use Rattle.span_tape.proofs.PageLemmas.{another_page, length_down}
use Rattle.span_tape.proofs.queue.append_last.Goals as goal

pub loop-done-preserved : goal.loop-done-preserved
loop-done-preserved c =
    let l = c.loop-done in
    let i = l.invariant in
    let test = c.loop-done-test.true in
    let n = c.min-more.result in
    let less = c.min-more.ensures in
    let h = c.put_last.ensures in
    let popped = c.in-Some.ensures.some in
    let full = i.3 test in
    let R = drop (0 + length (take (l.done + n - l.done) (drop l.done c.args.bytes.now))) c.in-Some.page.value.bytes in
    let on : l.done + n - l.done ≡ n = omega arith in
    let whole : c.args.at + l.done ≡ length (down_of l.back) = omega (arith, full, length_down l.back, c.count-whole.ensures.text) in
    let fits : l.done + n ≤ length c.args.bytes.now = omega (arith, less, test) in (
      fits,
      omega (arith, i.1, popped.1, h.count),
      omega (arith, less, test, full, h.count),
      λ lt. omega (arith, less, lt, full, h.count),
      ap (λ x. take (c.args.at + (l.done + n)) x) (h.text ∙ ap (λ k. down_of l.back ++ (take k (drop l.done c.args.bytes.now) ++ R)) on)
          ∙ another_page (down_of c.args.back.now) (down_of l.back) _ c.args.bytes.now c.args.at l.done n whole fits i.4,
    )
