-- Once a user that is gone sends no more, all that is held goes back as for a lost user whose message doesn't move.
use Rattle.std.proofs.Common.{◌≡◌, ◌∙◌, inr, true, false, ◌||◌, ap, subst, refl}
use Rattle.exchange_core.specs.declared.phase.Phase.{Phase}
use Rattle.exchange_core.specs.declared.phase.Phase.TheVariants.{Gone}
use Rattle.exchange_core.specs.declared.state.CourseState.{CourseState}
use Rattle.exchange_core.specs.May.{is_at_gate, is_gone, is_moving}
use Rattle.shard_exchange.specs.Ends.{moves}
use Rattle.shard_exchange.specs.Leaving.{lost_of, ReturnsAll, IsLost}
use Rattle.shard_exchange.proofs.exchange.Exchange.linger_on.Goals as goal

-- no message of a user that is gone is on its way
still : (phase : Phase) → is_gone phase ≡ true → (is_at_gate phase || is_moving phase) ≡ false
still Gone gone = refl
still _ gone = cc

-- so all that is held goes back as of a user that is lost
lost_there : (ends returns hangs_up : CourseState → CourseState → Type 0) (old met new : CourseState) → moves old ≡ false → met ≡ old
    → IsLost ends (ReturnsAll returns hangs_up) met new → ReturnsAll returns hangs_up (lost_of old) new
lost_there ends returns hangs_up old met new quiet same lost =
    subst (λ (mid : CourseState). ReturnsAll returns hangs_up mid new)
    (lost.unmoved (ap (λ (c : CourseState). moves c) same ∙ quiet) ∙ ap (λ (c : CourseState). lost_of c) same) lost.back

pub returns-in-Over-clause-back : goal.returns-in-Over-clause-back
returns-in-Over-clause-back g c =
    let old = c.args.self.now.course in
    let met = c.finish_once.new.self.course in
    inr (lost_there _ _ _ old met c.lose.new.self.course (still old.phase c.requires.gone) c.finish_once.ensures c.lose.ensures.lost)
