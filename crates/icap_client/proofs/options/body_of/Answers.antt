-- Where the only Encapsulated value is no list of an OPTIONS answer, the fields are not those of one.
use Rattle.std.proofs.Common.{rules, ◌≡◌, ℕ, Bool, List, [], ◌∷◌, codes, IfNone, sym, subst}
use Rattle.adapt_bytes.specs.Fields.{values_of}
use Rattle.icap_head.specs.Fields.{field_list}
use Rattle.icap_client.specs.Asking.{HasOptionsBody}
use Rattle.icap_client.proofs.options.body_of.Goals as goal

pub returns-in-Some-None-clause-none : goal.returns-in-Some-None-clause-none
returns-in-Some-None-clause-none c =
    let one : values_of (codes "Encapsulated") (field_list c.args.fields.now) ≡ c.in-Some-None.list.now ∷ [] = search rules in
    subst (λ (lists : List (List ℕ)). IfNone c.body_in.result ((body : Bool) → HasOptionsBody lists body → ⊥)) (sym one)
    c.body_in.ensures.none
