-- Where nothing was heard of the service, the message waits on, or fails once the deadline has passed.
use Rattle.std.proofs.Common.{◌≡◌, inl, inr, Bool, true, false, if◌then◌else◌, refl}
use Rattle.trace_core.specs.declared.history.Point.{Point}
use Rattle.exchange_core.specs.declared.state.CourseState.{CourseState}
use Rattle.exchange_core.specs.declared.event.Event.TheVariants.{Failed}
use Rattle.exchange_core.specs.declared.event.RefusalCause.TheVariants.{Deadline}
use Rattle.exchange_core.specs.Course.{after}
use Rattle.icap_head.specs.Heads.{Response}
use Rattle.shard_exchange.specs.Outcomes.{IsHeard}
use Rattle.shard_exchange.proofs.exchange.Exchange.hear.Goals as goal

-- nothing was heard: the message waits on, or fails of its deadline
silent : {H : Type 0} (learns : Point → Response → Type 0) (usable : H → Response → Bool) (keeps : H → Type 0) (asks : Point → Type 0)
    (renews : H → Type 0) (late : Bool) (old new : CourseState) → new ≡ (if late then after old (Failed Deadline) else old)
    → IsHeard learns usable keeps asks renews old new
silent learns usable keeps asks renews true old new e = inr (inr (inr (Deadline, refl, e)))
silent learns usable keeps asks renews false old new e = inl e

pub returns-in-Some-Nothing-clause-heard : goal.returns-in-Some-Nothing-clause-heard
returns-in-Some-Nothing-clause-heard g c =
    let out = c.args.out.now in
    let at = c.args.at.now in
    let told = c.wait_or_refuse in
    silent (g.H.Effects.learns out told.new.out at) g.H.Holder.usable_after (λ held. g.H.Holder.keeps_line held told.new.self.holdings)
    (g.H.Effects.asks told.new.self.holdings told.new.out) (λ held. g.H.Effects.renews held told.new.self.holdings out told.new.out at
    × g.H.Effects.may_retry out at true)
    (g.H.Effects.is_late out at) c.args.self.now.course told.new.self.course told.ensures.course
