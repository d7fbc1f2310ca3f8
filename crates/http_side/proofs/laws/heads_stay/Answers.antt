-- A head that a text begins with stays the same, and as long, whatever bytes follow the text.
use Rattle.http_side.proofs.Stays.{request_stays, response_stays}
use Rattle.http_side.proofs.laws.heads_stay.Goals as goal

pub returns-clause-requests : goal.returns-clause-requests
returns-clause-requests c = request_stays

pub returns-clause-responses : goal.returns-clause-responses
returns-clause-responses c = response_stays
