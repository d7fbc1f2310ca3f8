-- The values of a name, field by field.
use Rattle.std.proofs.Common.{◌≡◌, ℕ, ◌+◌, ◌<◌, true, false, List, [], ◌∷◌, length, drop, refl, ap, ◌∙◌}
use Rattle.std.proofs.lemmas.List.{drop_more}
use Rattle.adapt_bytes.specs.Fields.{FieldList, field_at, value_at, is_named, values_of}

-- the value of a first field of this name comes before those of the other fields
values_yes : (name : List ℕ) (field : List ℕ × List ℕ) (fields : FieldList) → is_named name field ≡ true
    → values_of name (field ∷ fields) ≡ field.1 ∷ values_of name fields
values_yes name field fields is = rw is refl

-- a first field of another name adds no value
values_no : (name : List ℕ) (field : List ℕ × List ℕ) (fields : FieldList) → is_named name field ≡ false
    → values_of name (field ∷ fields) ≡ values_of name fields
values_no name field fields off = rw off refl

-- the values from a field of this name on are its own and then those from the next field on
pub values_from_yes : (name : List ℕ) (fields : FieldList) (at : ℕ) → at < length fields → is_named name (field_at fields at) ≡ true
    → values_of name (drop at fields) ≡ value_at fields at ∷ values_of name (drop (at + 1) fields)
values_from_yes name fields at inside is =
    ap (values_of name) (drop_more fields at ([], []) inside) ∙ values_yes name (field_at fields at) (drop (at + 1) fields) is

-- the values from a field of another name on are those from the next field on
pub values_from_no : (name : List ℕ) (fields : FieldList) (at : ℕ) → at < length fields → is_named name (field_at fields at) ≡ false
    → values_of name (drop at fields) ≡ values_of name (drop (at + 1) fields)
values_from_no name fields at inside off =
    ap (values_of name) (drop_more fields at ([], []) inside) ∙ values_no name (field_at fields at) (drop (at + 1) fields) off
