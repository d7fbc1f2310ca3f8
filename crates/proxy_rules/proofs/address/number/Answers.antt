-- A decimal below the limit of counts has its value; a text that is no decimal has none.
use Rattle.http_side.proofs.LengthLemmas.{length_some, length_none}
use Rattle.proxy_rules.proofs.address.number.Goals as goal

pub returns-in-Some : goal.returns-in-Some
returns-in-Some c = length_some c.args.digits.now c.in-Some.number c.in-Some.ensures.found c.if-number-lt-COUNT_LIMIT.true

pub returns-in_default-2 : goal.returns-in_default-2
returns-in_default-2 c = length_none c.args.digits.now c.in_default.ensures.none
