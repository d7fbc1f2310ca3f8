-- The pages left are the first ones, and a part of the last of them is copied before what was copied already.
use Rattle.std.proofs.Common.{◌≡◌, ◌+◌, ◌-◌, ◌*◌, ◌≤◌, ◌++◌, length, take, drop, ap, sym, ◌∙◌, arith}
use Rattle.std.proofs.lemmas.List.{take_all}
use Rattle.span_bank.specs.Chain.{down_of}
use Rattle.span_tape.proofs.PageLemmas.{length_down, before_last, copied_before}
use Rattle.span_tape.proofs.queue.copy_last.Goals as goal

pub loop-i-init : goal.loop-i-init
loop-i-init c =
    let D = down_of c.args.back.now in
    let size : length D ≤ 4096 * length c.args.back.now = omega (arith, length_down c.args.back.now, c.count-whole.ensures.text) in
    (omega arith, sym (take_all (4096 * length c.args.back.now) D size))

pub loop-i-preserved : goal.loop-i-preserved
loop-i-preserved c =
    let l = c.loop-i in
    let D = down_of c.args.back.now in
    let N = c.in-Some.next.now in
    let P = c.in-Some._page.now.bytes in
    let is = c.in-Some.ensures.some in
    let more = ap (λ x. length x) is in
    let size : length (down_of N) ≡ 4096 * length N = omega (arith, length_down N, c.count-next.ensures.text) in
    let less : 4096 * length N ≤ 4096 * length l.rest.now = omega (arith, more) in (
      omega (arith, more, l.invariant.0),
      before_last D (down_of N) P (4096 * length l.rest.now) (4096 * length N) size less (ap (λ x. down_of x) (sym is) ∙ l.invariant.1),
    )

pub loop-left-preserved : goal.loop-left-preserved
loop-left-preserved c =
    let l = c.loop-left in
    let i = l.invariant in
    let at = c.args.at in
    let D = down_of c.args.back.now in
    let N = c.in-Some-first.next.now in
    let P = c.in-Some-first.page.now.bytes in
    let is = c.in-Some-first.ensures.some in
    let more = ap (λ x. length x) is in
    let h = c.copy_page_before-left.ensures in
    let r = c.copy_page_before-left.result in
    let out = c.copy_page_before-left.new.out in
    let upto = at + l.left - 4096 * c.count.result in
    let n = l.left - r in
    let part = i.2 c.loop-left-test.true in
    let size : length (down_of N) ≡ 4096 * length N = omega (arith, length_down N, c.count.ensures.text) in
    let less : 4096 * length N ≤ 4096 * length l.rest.now = omega (arith, more) in
    let first : down_of N ++ P ≡ take (4096 * length l.rest.now) D = ap (λ x. down_of x) (sym is) ∙ i.3 in
    let parts : r + n ≡ l.left = omega (arith, h.count) in
    let most : l.left ≤ length out = omega (arith, h.all, i.0) in
    let place : at + r ≡ length (down_of N) + (upto - n) = omega (arith, size, c.count.ensures.count, h.count, part.1, more) in
    let before : drop l.left l.out ≡ take (length out - l.left) (drop (at + l.left) D) =
    i.4 ∙ ap (λ k. take (k - l.left) (drop (at + l.left) D)) (sym h.all) in (
      omega (arith, h.all, h.count, i.0),
      h.all ∙ i.1,
      λ lt. (
        omega (arith, part.0, part.1, more, c.count.ensures.count, h.count, lt),
        omega (arith, part.0, part.1, more, c.count.ensures.count, h.count, lt),
      ),
      before_last D (down_of N) P (4096 * length l.rest.now) (4096 * length N) size less first,
      copied_before D (down_of N) P (drop r out) (drop l.left l.out) (4096 * length l.rest.now) at l.left r (length out) (upto - n) n first
          parts most place part.0 before h.text,
    )
