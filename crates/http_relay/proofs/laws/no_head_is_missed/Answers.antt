-- Where a turn at the head answers that more is to come, the raw bytes have no head, neither a request's nor a response's.
use Rattle.http_relay.proofs.Missed.{no_request, no_response}
use Rattle.http_relay.proofs.laws.no_head_is_missed.Goals as goal

pub returns : goal.returns
returns c = record { requests = no_request; responses = no_response }
