-- The fields of a head (RFC 9110, section 5): a list of names as they came, with their values.
use Rattle.std.specs.Prelude.{ℕ, Bool, List, [], map, filter, slice_index_or}
use Rattle.std.specs.Str.{str_eq_ignore_ascii_case}
use Rattle.http_header.specs.Token.{lowercase}
use Rattle.http_header.specs.HeaderMap.{Entries, append_all}

-- names as they came, and values without the blanks around them
abbrev pub FieldList : Type 0
FieldList = List (List ℕ × List ℕ)

-- the field at a place
abbrev pub field_at : FieldList → ℕ → List ℕ × List ℕ
field_at fields at = slice_index_or fields at ([], [])

abbrev pub name_at : FieldList → ℕ → List ℕ
name_at fields at = (field_at fields at).0

abbrev pub value_at : FieldList → ℕ → List ℕ
value_at fields at = (field_at fields at).1

-- the field has this name, ASCII case ignored (RFC 9110, section 5.1)
abbrev pub is_named : List ℕ → List ℕ × List ℕ → Bool
is_named name field = str_eq_ignore_ascii_case field.0 name

-- the values of the fields of this name, in their order
abbrev pub values_of : List ℕ → FieldList → List (List ℕ)
values_of name fields = map (λ field. field.1) (filter (is_named name) fields)

-- the same fields in a header map, which keeps names in lower case
abbrev pub as_header_map : FieldList → Entries (List ℕ)
as_header_map fields = append_all [] (map (λ field. (lowercase field.0, field.1)) fields)
