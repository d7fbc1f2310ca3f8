-- A head that is there is answered, unless memory runs out; a fault that stands is answered in any case.
use Rattle.http_side.proofs.ResponseAnswers.{head_told, fault_told}
use Rattle.http_side.proofs.response.read_response.Goals as goal

pub returns-clause-found : goal.returns-clause-found
returns-clause-found c = head_told c.args.to_head c.args.text.now _ c.find_response.ensures.found c.find_response.ensures.fault

pub returns-clause-fault : goal.returns-clause-fault
returns-clause-fault c = fault_told c.args.to_head c.args.text.now _ c.find_response.ensures.found c.find_response.ensures.fault
