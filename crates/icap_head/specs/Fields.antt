-- The fields of a head as a list, and what a look-up by name gives.
use Rattle.std.specs.Prelude.{ℕ, List, map, drop, Option, slice_get}
use Rattle.std.specs.List.{AllByRecursion}
use Rattle.httparse.specs.Spans.{header_bytes}
use Rattle.adapt_bytes.specs.Fields.{FieldList, values_of}
use Rattle.adapt_bytes.specs.Numeral.{Writes}
use Rattle.icap_head.specs.declared.field_list.Fields.{Fields}
use Rattle.icap_head.specs.declared.field_list.Values.{Values}

-- the fields as a list
abbrev pub field_list : Fields → FieldList
field_list fields = map (header_bytes fields.text.items) fields.lines.items

-- the value of the first field of this name
abbrev pub first_of : List ℕ → FieldList → Option (List ℕ)
first_of name fields = slice_get (values_of name fields) 0

-- what an iterator has still to give
abbrev pub values_left : Values → List (List ℕ)
values_left values = values_of values.name.now (drop values.passed (field_list values.fields.now))

-- each of the values is a decimal of this number
abbrev pub AllSpell : ℕ → List (List ℕ) → Type 0
AllSpell number values = AllByRecursion (λ text. Writes 10 text number) values
