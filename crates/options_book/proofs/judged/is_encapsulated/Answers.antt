-- A single Encapsulated field passes just if an OPTIONS response may have its list.
use Rattle.std.proofs.Common.{◌≡◌, ℕ, List, [], ◌∷◌, codes, inl, inr, sym, ◌∙◌, subst, ap}
use Rattle.adapt_bytes.specs.Fields.{values_of}
use Rattle.icap_head.specs.Fields.{field_list}
use Rattle.options_book.specs.Options.{IsOptionsList}
use Rattle.options_book.proofs.judged.is_encapsulated.Goals as goal

pub returns-in-Some-None : goal.returns-in-Some-None
returns-in-Some-None c =
    let first = c.in-Some-None.ensures.steps in
    let rest = c.in-Some-None.ensures'.steps in
    let start = c.values-values.ensures in
    let values : List (List ℕ) = values_of (codes "Encapsulated") (field_list c.args.fields.now) in
    let one : values ≡ c.in-Some-None.list.now ∷ [] = sym start ∙ first ∙ ap (λ t. c.in-Some-None.list.now ∷ t) rest.0 in (
      (λ is. inr (c.in-Some-None.list.now, one, c.is_options_list.ensures.0 is)),
      (λ is. elim is [
        | inl none ↦ let e : [] ≡ c.in-Some-None.list.now ∷ [] = sym none ∙ one in cc
        | inr there ↦
            let e : there.0 ∷ [] ≡ c.in-Some-None.list.now ∷ [] = sym there.1 ∙ one in
            let same : there.0 ≡ c.in-Some-None.list.now = cc in
            c.is_options_list.ensures.1 (subst IsOptionsList same there.2)
      ]),
    )
