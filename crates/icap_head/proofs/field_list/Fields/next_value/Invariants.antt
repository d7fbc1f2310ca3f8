-- The values of the name after the fields passed are those from this field on.
use Rattle.std.proofs.Common.{◌≡◌, drop}
use Rattle.adapt_bytes.specs.Fields.{values_of}
use Rattle.icap_head.specs.Fields.{field_list}
use Rattle.icap_head.proofs.field_list.Fields.next_value.Given as goal

abbrev pub invariant-loop-at : goal.invariant-loop-at
invariant-loop-at l = values_of l.name (drop l.passed (field_list l.self)) ≡ values_of l.name (drop l.at (field_list l.self))
