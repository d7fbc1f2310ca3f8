-- From an empty hold on, events within their room fit the claim, and leave a window for the adapted body.
use Rattle.adapt_hold.proofs.Bodies.{room_begins, room_in, room_ad, room_others}
use Rattle.adapt_hold.proofs.laws.room_stays.Goals as goal

pub returns : goal.returns
returns c = record {
  begins = λ h t none w. room_begins h t none w;
  original = λ h n bytes t r m w. room_in h n bytes t r m w;
  adapted = λ h n bytes t r m w. room_ad h n bytes t r m w;
  others = λ h event t r m b. room_others h event t r m b;
}
