-- What was taken of a begun message is a prefix of one message, and all of it once its end is fixed and nothing waits.
use Rattle.http_relay.proofs.Whole.{front_at, out_front_at, whole_at, whole_front_at, empty_at}
use Rattle.http_relay.proofs.laws.given_is_a_front.Goals as goal

pub returns : goal.returns
returns c = record {
  front = λ x head body taken h s l i g. front_at h.stage x h.framing head body taken h.writer s l i g.given;
  delivered = λ x head body taken h s l g. out_front_at h.stage x h.framing head body taken h.writer s l g.given;
  fixed = λ x head body taken h s l g. whole_front_at h.stage x h.framing head body taken h.writer s l g.given;
  whole = λ x head body taken h s l g o. whole_at h.stage x h.framing head body taken h.writer s l o g.given;
  empty = λ x head body taken h s g. empty_at h.stage x h.framing head body taken h.writer s g.given;
}
