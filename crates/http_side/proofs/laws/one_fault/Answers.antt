-- A text has to be refused for one fault at most, and one that has to be refused has no head.
use Rattle.http_side.proofs.RequestAnswers.{one_fault, head_or_fault}
use Rattle.http_side.proofs.ResponseAnswers.{one_fault as one_response_fault, head_or_fault as response_or_fault}
use Rattle.http_side.proofs.laws.one_fault.Goals as goal

pub returns-clause-requests : goal.returns-clause-requests
returns-clause-requests c = one_fault

pub returns-clause-responses : goal.returns-clause-responses
returns-clause-responses c = one_response_fault

pub returns-clause-no_request : goal.returns-clause-no_request
returns-clause-no_request c = head_or_fault

pub returns-clause-no_response : goal.returns-clause-no_response
returns-clause-no_response c = response_or_fault
