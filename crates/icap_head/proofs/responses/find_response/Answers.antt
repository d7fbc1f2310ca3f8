-- A head found in the text as it came is its head with the folds read too, also where no memory is found to keep it.
use Rattle.icap_head.specs.Fields.{field_list}
use Rattle.icap_head.specs.Heads.{StartsResponse, response_parts}
use Rattle.icap_head.proofs.Folding.{head_stays}
use Rattle.icap_head.proofs.Plain.{want_stays}
use Rattle.icap_head.proofs.responses.find_response.Goals as goal

pub returns-in-Ok-clause-ok : goal.returns-in-Ok-clause-ok
returns-in-Ok-clause-ok c =
    let head = c.in-Ok.head in
    head_stays (StartsResponse (response_parts head.value)) c.args.text.now (field_list head.value.fields) head.length c.in-Ok.ensures.ok

pub returns-in-Err-NoMemory-clause-err : goal.returns-in-Err-NoMemory-clause-err
returns-in-Err-NoMemory-clause-err c =
    let fault = c.in-Err-NoMemory.field-0 in
    want_stays c.args.text.now fault c.in-Err-NoMemory.field-0-is c.in-Err-NoMemory.ensures.err
