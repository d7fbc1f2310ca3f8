-- To what was there, the lines of the fields before this one are added.
use Rattle.std.proofs.Common.{◌≡◌, ◌++◌, take}
use Rattle.std.specs.List.{flat_map}
use Rattle.icap_head.specs.Fields.{field_list}
use Rattle.icap_head.specs.Written.{field_text}
use Rattle.icap_head.proofs.field_lines.put_fields.Given as goal

abbrev pub invariant-loop-at : goal.invariant-loop-at
invariant-loop-at l = l.out.items ≡ l.fn.out.items ++ flat_map field_text (take l.at (field_list l.fields))
