-- A text that is no item, or whose one name is no part's, is the item of no part.
use Rattle.std.proofs.Common.{◌∙◌, sym, ap, map}
use Rattle.std.specs.Char.{to_ascii_lowercase}
use Rattle.encapsulated.proofs.ItemLemmas.{item_unique}
use Rattle.encapsulated.proofs.items.read_part.Goals as goal

pub returns-in_err-name-clause-none : goal.returns-in_err-name-clause-none
returns-in_err-name-clause-none c = rw c.from_residual.ensures (λ part offset h. c.in_err-name.ensures.none h.name offset h.item)

pub returns-in_err-part-clause-none : goal.returns-in_err-part-clause-none
returns-in_err-part-clause-none c = rw c.from_residual-in_err-part.ensures (λ part offset h.
    let same = item_unique c.args.text.now _ _ _ _ h.item c.in_ok-name.ensures.some in
    c.in_err-part.ensures.none part (ap (map to_ascii_lowercase) (sym same.0) ∙ h.named))
