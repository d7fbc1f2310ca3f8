-- Where a head of a request or a response is cut before its last byte, the fault is More.
use Rattle.icap_head.specs.Heads.{StartsRequest, StartsResponse}
use Rattle.icap_head.specs.StartLines.{RequestForm, StatusForm}
use Rattle.icap_head.proofs.Follows.{front_is_more}
use Rattle.icap_head.proofs.Folding.{folded_front_is_more}
use Rattle.icap_head.proofs.laws.beginnings_are_more.Goals as goal

pub returns-clause-requests : goal.returns-clause-requests
returns-clause-requests c = λ text value. front_is_more RequestForm (StartsRequest value) (λ line l. (value.method, value.uri, l)) text
    value.fields

pub returns-clause-responses : goal.returns-clause-responses
returns-clause-responses c = λ text value. folded_front_is_more StatusForm (StartsResponse value)
    (λ line l. (value.status, value.phrase, l)) text value.fields
