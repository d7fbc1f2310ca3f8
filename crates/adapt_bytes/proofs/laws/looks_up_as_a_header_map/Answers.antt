-- The values of a name are those that a header map of the fields has under the name in lower case.
use Rattle.adapt_bytes.proofs.LookUps.{values_as_in_map}
use Rattle.adapt_bytes.proofs.laws.looks_up_as_a_header_map.Goals as goal

pub returns : goal.returns
returns c = values_as_in_map
