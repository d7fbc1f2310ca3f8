-- A text begins with at most one head of a request and at most one of a response, each of one length.
use Rattle.icap_head.specs.Folds.{unfolded}
use Rattle.icap_head.proofs.OneReading.{request_unique, response_unique}
use Rattle.icap_head.proofs.laws.one_head.Goals as goal

pub returns-clause-requests : goal.returns-clause-requests
returns-clause-requests c = request_unique

pub returns-clause-responses : goal.returns-clause-responses
returns-clause-responses c = λ text. response_unique (unfolded text)
