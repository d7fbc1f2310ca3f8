-- All requests but the newest have an answer; the next is read with nothing held, a response after its request.
use Rattle.exchange_core.proofs.Turning.{answers, next_is_none, next_is_open, next_is_free, response_after_request}
use Rattle.exchange_core.proofs.laws.requests_and_answers_take_turns.Goals as goal

pub returns : goal.returns
returns c = record { answers = answers; none = next_is_none; kept = next_is_open; free = next_is_free; response = response_after_request }
