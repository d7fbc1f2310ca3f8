-- A text cut before the last byte of its head is refused with More, as a request and as a response.
use Rattle.http_side.proofs.Stays.{request_beginning, response_beginning}
use Rattle.http_side.proofs.laws.beginnings_are_more.Goals as goal

pub returns-clause-requests : goal.returns-clause-requests
returns-clause-requests c = request_beginning

pub returns-clause-responses : goal.returns-clause-responses
returns-clause-responses c = response_beginning
