-- A list is read just if it has a layout of an OPTIONS response.
use Rattle.std.proofs.Common.{sym, ◌∙◌, ap, is_ok}
use Rattle.options_book.proofs.Oks.{ok_tells}
use Rattle.options_book.proofs.judged.is_options_list.Goals as goal

pub returns : goal.returns
returns c = (
  (λ is. let r = ok_tells c.read.result (sym c.is_ok.ensures.value ∙ is) in (r.0, (c.read.ensures.ok r.0).0 r.1)),
  (λ is. c.is_ok.ensures.value ∙ ap is_ok ((c.read.ensures.ok is.0).1 is.1)),
)
