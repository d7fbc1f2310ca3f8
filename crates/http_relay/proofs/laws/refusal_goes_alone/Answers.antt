-- While a refusal is written, a prefix of it was taken, all of it once nothing waits, and nothing of a message.
use Rattle.http_relay.proofs.Whole.{refusal_front, refusal_whole}
use Rattle.http_relay.specs.HopLaws.{no_message_at}
use Rattle.http_relay.proofs.laws.refusal_goes_alone.Goals as goal

pub returns : goal.returns
returns c = record {
  front = refusal_front;
  whole = refusal_whole;
  no_message = λ status x head body taken h s g. no_message_at h.stage status x h.framing head body taken h.writer s g.given;
}
