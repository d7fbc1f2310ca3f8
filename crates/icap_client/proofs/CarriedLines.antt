-- The lines of a list of fields, one after another.
use Rattle.std.proofs.Common.{◌≡◌, ◌<◌, ◌+◌, ℕ, List, [], ◌∷◌, ◌++◌, length, take, filter, ap, ◌∙◌}
use Rattle.std.specs.List.{flat_map}
use Rattle.std.proofs.lemmas.Grind.{flat_map-append}
use Rattle.std.proofs.lemmas.List.{take_more}
use Rattle.std.proofs.lemmas.List.Elements.{filter-append}
use Rattle.adapt_bytes.specs.Fields.{FieldList, field_at}
use Rattle.adapt_bytes.specs.Text.{is_among}
use Rattle.icap_head.specs.Written.{field_text}
use Rattle.icap_client.specs.Carried.{carried_text}

-- the carried lines of two lists of fields in a row are those of the first, then those of the second
both_parts : (names : List (List ℕ)) (xs ys : FieldList) → carried_text names (xs ++ ys) ≡ carried_text names xs ++ carried_text names ys
both_parts names xs ys =
    ap (flat_map field_text) (filter-append (λ (field : List ℕ × List ℕ). is_among names field.0) xs ys)
    ∙ flat_map-append field_text (filter (λ (field : List ℕ × List ℕ). is_among names field.0) xs)
    (filter (λ (field : List ℕ × List ℕ). is_among names field.0) ys)

-- with one field more
pub carried_more : (names : List (List ℕ)) (fields : FieldList) (at : ℕ) → at < length fields
    → carried_text names (take (at + 1) fields) ≡ carried_text names (take at fields) ++ carried_text names (field_at fields at ∷ [])
carried_more names fields at inside =
    ap (carried_text names) (take_more fields at ([], []) inside) ∙ both_parts names (take at fields) (field_at fields at ∷ [])
