-- A decimal below the limit of counts is the length; a text that spells no number of 64 bits gives none.
use Rattle.http_side.proofs.LengthLemmas.{length_some, length_none}
use Rattle.http_side.proofs.lengths.length_value.Goals as goal

pub returns-in-Some : goal.returns-in-Some
returns-in-Some c = length_some c.args.value.now c.in-Some.length c.in-Some.ensures.found c.if-length-lt-COUNT_LIMIT.true

pub returns-in_default-2 : goal.returns-in_default-2
returns-in_default-2 c = length_none c.args.value.now c.in_default.ensures.none
