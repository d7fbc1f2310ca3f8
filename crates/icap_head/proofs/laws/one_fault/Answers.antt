-- Read as a request, or as a response, a text has at most one fault, and none if it begins with a head of that kind.
use Rattle.icap_head.specs.StartLines.{RequestForm, StatusForm}
use Rattle.icap_head.specs.Folds.{unfolded}
use Rattle.icap_head.proofs.OneReading.{request_version, status_version, no_request_fault, no_response_fault}
use Rattle.icap_head.proofs.Readings.{one_fault}
use Rattle.icap_head.proofs.laws.one_fault.Goals as goal

pub returns-clause-requests : goal.returns-clause-requests
returns-clause-requests c = λ text f g. one_fault RequestForm request_version f g text

pub returns-clause-responses : goal.returns-clause-responses
returns-clause-responses c = λ text f g. one_fault StatusForm status_version f g (unfolded text)

pub returns-clause-no_request : goal.returns-clause-no_request
returns-clause-no_request c = λ text fault value size s h. no_request_fault fault text value size h s

pub returns-clause-no_response : goal.returns-clause-no_response
returns-clause-no_response c = λ text fault value size s h. no_response_fault fault (unfolded text) value size h s
