-- The lines of the fields before this one are out.
use Rattle.std.proofs.Common.{◌≡◌, map, string_bytes, take}
use Rattle.icap_head.specs.Fields.{field_list}
use Rattle.icap_client.specs.Carried.{carried_text}
use Rattle.icap_client.proofs.carried.carried_of.Given as goal

abbrev pub invariant-loop-at : goal.invariant-loop-at
invariant-loop-at l = l.out.items ≡ carried_text (map string_bytes l.names) (take l.at (field_list l.fields))
