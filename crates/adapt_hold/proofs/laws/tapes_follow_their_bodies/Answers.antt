-- A tape that has all of its body from its base on also has it so after an event, from its new base on and with the bytes that came.
use Rattle.adapt_hold.proofs.Bodies.{steps, original_follows, adapted_follows}
use Rattle.adapt_hold.proofs.laws.tapes_follow_their_bodies.Goals as goal

pub returns-clause-original : goal.returns-clause-original
returns-clause-original c = λ h event bytes body t m k f. original_follows h event bytes body t (steps h event bytes m k) f

pub returns-clause-adapted : goal.returns-clause-adapted
returns-clause-adapted c = λ h event bytes body t m k f. adapted_follows h event bytes body t (steps h event bytes m k) f
