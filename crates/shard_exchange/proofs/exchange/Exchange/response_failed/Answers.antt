-- Unless the request goes back to its plan, the message fails of what the turn at the response's head found.
use Rattle.std.proofs.Common.{◌≡◌, inr, Bool, true, false, ◌&&◌, Option, refl, ap, sym, subst, ◌∙◌}
use Rattle.std.proofs.lemmas.Bool.{false≢true}
use Rattle.adapt_sides.specs.declared.fault.RelayFault.{RelayFault}
use Rattle.exchange_core.specs.declared.state.CourseState.{CourseState}
use Rattle.exchange_core.specs.declared.event.Event.TheVariants.{Failed}
use Rattle.exchange_core.specs.Course.{after}
use Rattle.http_side.specs.declared.fault.HttpFault.{HttpFault}
use Rattle.shard_exchange.specs.declared.answers.Withdrawal.{Withdrawal}
use Rattle.shard_exchange.specs.declared.answers.Withdrawal.TheVariants.{Again}
use Rattle.exchange_report.specs.Reasons.{cause_of}
use Rattle.exchange_report.specs.declared.reason.Reason.{Reason}
use Rattle.shard_exchange.specs.Reasons.{origin_head_reason}
use Rattle.shard_exchange.specs.Outcomes.{may_go_back, FaultLeads}
use Rattle.shard_exchange.proofs.exchange.Exchange.response_failed.Goals as goal
use Rattle.shard_exchange.proofs.exchange.Exchange.response_failed.Goals.{else-is_end_of_wire-via-then-is_end_of_wire+then-may+else-withdraw-eq0}
use Rattle.shard_exchange.proofs.exchange.Exchange.response_failed.Goals.{else-is_end_of_wire-via-then-is_end_of_wire+else-may}
use Rattle.shard_exchange.proofs.exchange.Exchange.response_failed.Goals.{else-is_end_of_wire-via-else-is_end_of_wire}

-- where both of two are true, the first is
first_holds : (a b : Bool) → (a && b) ≡ true → a ≡ true
first_holds true b h = refl
first_holds false b h = h

-- where both of two are true, the second is
second_holds : (a b : Bool) → (a && b) ≡ true → b ≡ true
second_holds true b h = h
second_holds false b h = absurd cc

-- the message fails by what the head's turn found, where the request isn't the message again
fails_so : (repeats : Type 0) (asked : Withdrawal → Type 0) (head : Option HttpFault) (fault : RelayFault) (old mid new : CourseState)
    (reason : Reason)
    → mid ≡ old → reason ≡ origin_head_reason fault head → new ≡ after mid (Failed (cause_of reason))
    → (may_go_back fault old ≡ true → (came : Withdrawal) × (came ≡ Again → ⊥) × asked came)
    → FaultLeads repeats asked head fault old new
fails_so repeats asked head fault old mid new reason same why fails why_not =
    inr (
      why_not,
      fails ∙ (ap (λ (c : CourseState). after c (Failed (cause_of reason))) same
          ∙ ap (λ (r : Reason). after old (Failed (cause_of r))) why),
    )

pub returns-else-is_end_of_wire-clause-leads : goal.returns-else-is_end_of_wire-clause-leads
returns-else-is_end_of_wire-clause-leads g c =
    let old = c.args.self.now in
    let new = c.refuse.new.self in
    let repeats = g.H.Holder.repeats old.holdings in
    let asked = g.H.Holder.withdraws old.holdings new.holdings in
    let head = g.H.Holder.head_fault old.holdings in
    let reason = c.origin_head_reason-reason in
    let why = reason.ensures.reason ∙ ap (λ h. origin_head_reason c.args.fault h) c.head_fault.ensures in
    elim c.else-is_end_of_wire.branch [
      -- what is held answered that it isn't
      | else-is_end_of_wire-via-then-is_end_of_wire+then-may+else-withdraw-eq0 w ↦
          fails_so repeats asked head c.args.fault old.course c.else-is_end_of_wire.self.course new.course reason.result
          (ap (λ e. e.course) w.self-is) why c.refuse.ensures.course
          (λ both. (
            w.withdraw.result,
            (λ same. false≢true (sym (rw same at w.if-withdraw-eq0.false))),
            subst (λ h. g.H.Holder.withdraws old.holdings h w.withdraw.result)
                (sym (c.refuse.ensures.held ∙ ap (λ e. e.holdings) w.self-is)) w.withdraw.ensures.answers,
          ))
      -- the course may not go there
      | else-is_end_of_wire-via-then-is_end_of_wire+else-may w ↦
          fails_so repeats asked head c.args.fault old.course c.else-is_end_of_wire.self.course new.course reason.result
          (ap (λ e. e.course) w.self-is) why c.refuse.ensures.course
          (λ both. absurd (false≢true (sym w.if-may.false ∙ (w.may.ensures ∙ second_holds _ _ both))))
      -- the connection has not ended
      | else-is_end_of_wire-via-else-is_end_of_wire w ↦
          fails_so repeats asked head c.args.fault old.course c.else-is_end_of_wire.self.course new.course reason.result
          (ap (λ e. e.course) w.self-is) why c.refuse.ensures.course
          (λ both. absurd (false≢true (sym w.if-is_end_of_wire.false ∙ (c.is_end_of_wire.ensures ∙ first_holds _ _ both))))
    ]
