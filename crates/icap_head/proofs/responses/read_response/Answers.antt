-- A head is read, unless memory runs out, and a fault answered; the head lies in the text and can be written.
use Rattle.std.proofs.Common.{ℕ, arith, take}
use Rattle.icap_head.specs.Folds.{unfolded}
use Rattle.icap_head.specs.Heads.{Response, HasResponse, response_parts}
use Rattle.icap_head.proofs.FieldFaults.{ok_map}
use Rattle.icap_head.proofs.Folding.{unfolded_length}
use Rattle.icap_head.proofs.Held.{response_held}
use Rattle.icap_head.proofs.OneReading.{response_found, response_fault}
use Rattle.icap_head.proofs.responses.read_response.Goals as goal

pub returns-clause-found : goal.returns-clause-found
returns-clause-found c = response_found (λ f. (value : Response) × (size : ℕ) × HasResponse c.args.text.now value size)
    (unfolded c.args.text.now) _ c.find_response.ensures.ok c.find_response.ensures.err

pub returns-clause-fault : goal.returns-clause-fault
returns-clause-fault c = response_fault (unfolded c.args.text.now) _ c.find_response.ensures.ok c.find_response.ensures.err

pub returns-clause-writable : goal.returns-clause-writable
returns-clause-writable c = ok_map c.find_response.result (λ head h. response_held (take head.length (unfolded c.args.text.now))
    (response_parts head.value) h.head) c.find_response.ensures.ok

pub returns-clause-inside : goal.returns-clause-inside
returns-clause-inside c = ok_map c.find_response.result (λ head h. omega (arith, h.inside, unfolded_length c.args.text.now))
    c.find_response.ensures.ok
