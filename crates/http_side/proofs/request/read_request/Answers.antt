-- A head that is there is answered, and so is a fault that stands, unless memory runs out for head or target.
use Rattle.http_side.proofs.RequestAnswers.{head_told, fault_told}
use Rattle.http_side.proofs.request.read_request.Goals as goal

pub returns-clause-found : goal.returns-clause-found
returns-clause-found c = head_told c.args.adapted c.args.text.now _ c.find_request.ensures.found c.find_request.ensures.fault

pub returns-clause-fault : goal.returns-clause-fault
returns-clause-fault c = fault_told c.args.adapted c.args.text.now _ c.find_request.ensures.found c.find_request.ensures.fault
