-- All fields are writable if and only if those from this one on are.
use Rattle.std.proofs.Common.{◌↔◌, drop}
use Rattle.std.specs.List.{AllByRecursion}
use Rattle.icap_head.specs.Fields.{field_list}
use Rattle.icap_head.specs.Written.{IsFieldPair}
use Rattle.icap_head.proofs.field_lines.are_writable.Given as goal

abbrev pub invariant-loop-at : goal.invariant-loop-at
invariant-loop-at l =
    AllByRecursion IsFieldPair (field_list l.fields) ↔ AllByRecursion IsFieldPair (drop l.at (field_list l.fields))
