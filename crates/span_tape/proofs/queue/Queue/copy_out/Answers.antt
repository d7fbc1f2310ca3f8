-- Bytes are copied from the first pages as far as they reach, and then from the pages after them.
use Rattle.std.proofs.Common.{◌≡◌, ◌+◌, ◌-◌, ◌*◌, ◌≤◌, ◌++◌, min, length, take, drop, ap, sym, ◌∙◌, subst, arith}
use Rattle.std.proofs.Math.Seq.{drop-append-add}
use Rattle.span_bank.specs.Chain.{text_of, down_of}
use Rattle.span_tape.specs.Queue.{Paged}
use Rattle.span_tape.proofs.PageLemmas.{both_parts}
use Rattle.span_tape.proofs.queue.Queue.copy_out.Goals as goal

pub returns-then-at-before : goal.returns-then-at-before
returns-then-at-before c =
    let s = c.self.inside in
    let at = c.args.at in
    let F = text_of s.front in
    let B = down_of s.back in
    let n = c.min-some.result in
    let m = length c.args.out.now in
    let parts = c.split_at_mut-first.ensures in
    let P : Paged → Type 0 = λ v. c.copy_first.new.out ++ c.copy_last.new.out ≡ take m (drop at v.text) in
    let low : at ≤ length F = omega (arith, c.count-before.ensures.text, c.count-before.ensures.count, c.if-at-before.true) in
    let left : length c.split_at_mut-first.result.1.now ≡ m - n = omega (arith, parts.back_len) in
    let least : n ≡ min (length F - at) m = omega (arith, c.min-some.ensures, c.count-before.ensures.text, c.count-before.ensures.count) in
    subst P c.self.view_is
    (ap (λ l. l ++ c.copy_last.new.out) (c.copy_first.ensures ∙ ap (λ k. take k (drop at F)) parts.front_len)
    ∙ ap (λ l. take n (drop at F) ++ l) (c.copy_last.ensures ∙ ap (λ k. take k B) left)
    ∙ both_parts F B at n m low least)

pub returns-else-at-before : goal.returns-else-at-before
returns-else-at-before c =
    let s = c.self.inside in
    let at = c.args.at in
    let F = text_of s.front in
    let B = down_of s.back in
    let m = length c.args.out.now in
    let n = at - 4096 * c.count-before.result in
    let P : Paged → Type 0 = λ v. c.copy_last-else-at-before.new.out ≡ take m (drop at v.text) in
    let behind : at ≡ length F + n = omega (arith, c.count-before.ensures.text, c.count-before.ensures.count, c.if-at-before.false) in
    subst P c.self.view_is
    (c.copy_last-else-at-before.ensures ∙ ap (λ l. take m l) (sym (ap (λ k. drop k (F ++ B)) behind ∙ drop-append-add F B n)))
