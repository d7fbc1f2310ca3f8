-- A head at the start of a text stays there, of the same length, whatever bytes follow.
use Rattle.icap_head.specs.Heads.{StartsRequest, StartsResponse}
use Rattle.icap_head.proofs.Readings.{has_head-append}
use Rattle.icap_head.proofs.Folding.{has_folded-append}
use Rattle.icap_head.proofs.laws.heads_stay.Goals as goal

pub returns-clause-requests : goal.returns-clause-requests
returns-clause-requests c = λ text more value. has_head-append (StartsRequest value) text more value.fields

pub returns-clause-responses : goal.returns-clause-responses
returns-clause-responses c = λ text more value. has_folded-append (StartsResponse value) text more value.fields
