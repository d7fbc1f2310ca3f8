-- The names are in the order of what is left of both from here on.
use Rattle.std.proofs.Common.{◌≡◌, drop}
use Rattle.http_side.specs.Names.{name_order}
use Rattle.http_side.proofs.names.compare_names.Given as goal

abbrev pub invariant-loop-at : goal.invariant-loop-at
invariant-loop-at l = name_order l.name l.other ≡ name_order (drop l.at l.name) (drop l.at l.other)
