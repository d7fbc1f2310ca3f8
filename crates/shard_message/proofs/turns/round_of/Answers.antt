-- Where the service's connection broke, the request begins anew or fails; else that connection stays.
use Rattle.std.proofs.Common.{◌≡◌, false, Option, None, refl, inl, inr}
use Rattle.shard_exchange.specs.declared.answers.Round.{Round}
use Rattle.shard_exchange.specs.declared.answers.Round.TheVariants as rounds
use Rattle.shard_message.specs.Outset.{IsLineAfter}
use Rattle.shard_message.specs.Rounds.{is_broken}
use Rattle.shard_message.proofs.turns.round_of.Goals as goal

-- a round that isn't the one of a broken connection isn't broken
not_broken : (round : Round) → (round ≡ rounds.Broken → ⊥) → is_broken round ≡ false
not_broken rounds.Broken n = absurd (n refl)
not_broken rounds.Over n = refl
not_broken rounds.Waiting n = refl
not_broken (rounds.Moved framing) n = refl

-- without a broken connection nothing changes
line_stays : {S : Type 0} (opened : S → Type 0) (round : Round) (was given : Option S) → (round ≡ rounds.Broken → ⊥)
    → IsLineAfter opened round was given was given
line_stays opened rounds.Broken was given n = absurd (n refl)
line_stays opened rounds.Over was given n = (refl, (None, refl))
line_stays opened rounds.Waiting was given n = (refl, refl)
line_stays opened (rounds.Moved framing) was given n = (refl, refl)

pub returns-in-Broken-clause-turns : goal.returns-in-Broken-clause-turns
returns-in-Broken-clause-turns g c = (
  c.now-now.result,
  c.now-now.ensures,
  inr (c.turn_each.new.tx, c.in-Broken.ensures.turns, c.renew.ensures.anew),
)

pub returns-in-Broken-clause-carries : goal.returns-in-Broken-clause-carries
returns-in-Broken-clause-carries g c = λ s h. c.renew.ensures.carries s (c.in-Broken.ensures.lasts s h)

pub returns-in_default : goal.returns-in_default
returns-in_default g c = record {
  leased = refl;
  renewed = λ e. absurd (c.in_default.not-Broken e);
  turns = (c.now-now.result, c.now-now.ensures, inl (c.turn_each.ensures.turns, not_broken c.turn_each.result c.in_default.not-Broken));
  carries = λ s h. (s.line, s.given, line_stays _ c.turn_each.result s.line s.given c.in_default.not-Broken, c.turn_each.ensures.lasts s h);
}
