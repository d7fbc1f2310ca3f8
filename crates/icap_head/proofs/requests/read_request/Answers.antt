-- A head or a fault that applies is answered, unless memory runs out; a request that is read can be written.
use Rattle.std.proofs.Common.{take}
use Rattle.icap_head.specs.Heads.{request_parts}
use Rattle.icap_head.proofs.FieldFaults.{ok_map}
use Rattle.icap_head.proofs.Held.{request_held}
use Rattle.icap_head.proofs.OneReading.{request_found, request_fault, start_fault, later_fault}
use Rattle.icap_head.proofs.requests.read_request.Goals as goal

pub returns-clause-found : goal.returns-clause-found
returns-clause-found c = request_found c.args.text.now _ c.find_request.ensures.ok c.find_request.ensures.err

pub returns-clause-later : goal.returns-clause-later
returns-clause-later c = later_fault c.args.text.now _ c.find_request.ensures.ok c.find_request.ensures.err

pub returns-clause-start : goal.returns-clause-start
returns-clause-start c = start_fault c.args.text.now _ c.find_request.ensures.ok c.find_request.ensures.err

pub returns-clause-fault : goal.returns-clause-fault
returns-clause-fault c = request_fault c.args.text.now _ c.find_request.ensures.ok c.find_request.ensures.err

pub returns-clause-writable : goal.returns-clause-writable
returns-clause-writable c = ok_map c.find_request.result (λ head h. request_held (take head.length c.args.text.now)
    (request_parts head.value) h.head) c.find_request.ensures.ok
