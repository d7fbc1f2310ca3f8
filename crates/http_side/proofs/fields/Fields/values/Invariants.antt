-- The values found are those of the fields so far that have the name.
use Rattle.std.proofs.Common.{take}
use Rattle.adapt_bytes.specs.Fields.{values_of}
use Rattle.http_side.specs.Fields.{IsValues}
use Rattle.http_side.proofs.fields.Fields.values.Given as goal

abbrev pub invariant-loop-at : goal.invariant-loop-at
invariant-loop-at l = IsValues (values_of l.name (take l.at l.self)) l.values
