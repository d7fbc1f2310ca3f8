-- Which fields of an answer's head go on with a later request, and how.
use Rattle.std.specs.Prelude.{ℕ, List, filter}
use Rattle.std.specs.List.{flat_map}
use Rattle.adapt_bytes.specs.Fields.{FieldList}
use Rattle.adapt_bytes.specs.Text.{is_among}
use Rattle.icap_head.specs.Written.{field_text}

-- the lines of the fields that have one of these names, ASCII case ignored: in their order, with their names and values as they came
abbrev pub carried_text : (names : List (List ℕ)) → FieldList → List ℕ
carried_text names fields = flat_map field_text (filter (λ field. is_among names field.0) fields)
