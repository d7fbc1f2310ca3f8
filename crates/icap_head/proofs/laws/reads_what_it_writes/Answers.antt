-- The head written of a writable value, of at most 100 fields and 16,384 bytes, is found whole, whatever follows.
use Rattle.std.proofs.Common.{◌++◌, length}
use Rattle.icap_head.specs.Heads.{StartsRequest, StartsResponse}
use Rattle.icap_head.specs.Written.{request_text, response_text}
use Rattle.icap_head.proofs.Back.{request_back, response_back}
use Rattle.icap_head.proofs.Readings.{has_all}
use Rattle.icap_head.proofs.Folding.{head_stays}
use Rattle.icap_head.proofs.laws.reads_what_it_writes.Goals as goal

pub returns-clause-requests : goal.returns-clause-requests
returns-clause-requests c = λ value more is few short. has_all (StartsRequest value) (request_text value) more value.fields few short
    (request_back value is)

pub returns-clause-responses : goal.returns-clause-responses
returns-clause-responses c = λ value more is few short.
    let plain = has_all (StartsResponse value) (response_text value) more value.fields few short (response_back value is) in
    head_stays (StartsResponse value) (response_text value ++ more) value.fields (length (response_text value)) plain
