-- No field so far has the name.
use Rattle.std.proofs.Common.{◌≡◌, take, []}
use Rattle.adapt_bytes.specs.Fields.{values_of}
use Rattle.http_side.proofs.fields.Fields.has.Given as goal

abbrev pub invariant-loop-at : goal.invariant-loop-at
invariant-loop-at l = values_of l.name (take l.at l.self) ≡ []
