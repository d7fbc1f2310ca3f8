-- The text has a page's bytes for each page, of those kept first to last and of those kept last to first.
use Rattle.std.proofs.Common.{◌≡◌, ◌*◌, length, subst, arith, length-append}
use Rattle.span_bank.specs.Chain.{text_of, down_of}
use Rattle.span_tape.specs.Queue.{Paged}
use Rattle.span_tape.proofs.PageLemmas.{length_down}
use Rattle.span_tape.proofs.queue.Queue.count.Goals as goal

pub returns-clause-text : goal.returns-clause-text
returns-clause-text c =
    let s = c.self.inside in
    let P : Paged → Type 0 = λ v. length v.text ≡ 4096 * v.count in
    subst P c.self.view_is (omega (
      arith,
      length-append (text_of s.front) (down_of s.back),
      length_down s.back,
      c.count-front.ensures.text,
      c.count-back.ensures.text,
    ))
