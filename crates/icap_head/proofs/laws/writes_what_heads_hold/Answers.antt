-- A request or a response can be written if and only if some text is its head.
use Rattle.icap_head.specs.Written.{request_text, response_text}
use Rattle.icap_head.proofs.Back.{request_back, response_back}
use Rattle.icap_head.proofs.Held.{request_held, response_held}
use Rattle.icap_head.proofs.laws.writes_what_heads_hold.Goals as goal

pub returns-clause-requests : goal.returns-clause-requests
returns-clause-requests c = λ value. (λ h. (request_text value, request_back value h), λ h. request_held h.0 value h.1)

pub returns-clause-responses : goal.returns-clause-responses
returns-clause-responses c = λ value. (λ h. (response_text value, response_back value h), λ h. response_held h.0 value h.1)
