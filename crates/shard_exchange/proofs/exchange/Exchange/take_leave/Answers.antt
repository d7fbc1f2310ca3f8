-- A user whose refusal came to its end is gone, also after what it still sends was dropped.
use Rattle.std.proofs.Common.{◌≡◌, ◌∙◌, ℕ, Bool, true, false, if◌then◌else◌, ap, sym}
use Rattle.adapt_sides.specs.declared.saying.Said.{Said}
use Rattle.adapt_sides.specs.declared.saying.Said.TheVariants.{Whole, Part, Nothing, Broken}
use Rattle.exchange_core.specs.declared.due.Due.TheVariants as dues
use Rattle.exchange_core.specs.declared.phase.Phase.{Phase}
use Rattle.exchange_core.specs.declared.phase.Phase.TheVariants.{Gone}
use Rattle.exchange_core.specs.declared.state.CourseState.{CourseState}
use Rattle.exchange_core.specs.Course.{is_leased}
use Rattle.exchange_core.specs.Dues.{due_at}
use Rattle.exchange_core.specs.May.{is_gone}
use Rattle.exchange_core.proofs.Stepping.{goes_on}
use Rattle.shard_exchange.specs.Outcomes.{LastLeads}
use Rattle.shard_exchange.proofs.exchange.Exchange.take_leave.Goals as goal

pub returns-in-None-clause-goes : goal.returns-in-None-clause-goes
returns-in-None-clause-goes g c = goes_on _ _ _ c.take_refusal.ensures.goes c.linger_on.ensures.goes

-- what is held goes back first, and then nothing is due
frees : (leased stake origin : Bool) (status : ℕ)
    → (if leased then dues.GiveBack else (if stake then dues.Release else (if origin then dues.HangUp else dues.Nothing)))
    ≡ dues.TryRefusal status → ⊥
frees true stake origin status h = cc
frees false true origin status h = cc
frees false false true status h = cc
frees false false false status h = cc

-- a user that is owed a refusal isn't gone
is_owed : (phase : Phase) (c : CourseState) (status : ℕ) → due_at phase c ≡ dues.TryRefusal status → is_gone phase ≡ true → ⊥
is_owed Gone c status h gone = frees (is_leased c.connection) c.stake c.origin status h
is_owed _ c status h gone = cc

-- where its refusal led to its end, it is gone
ends_gone : {H : Type 0} (later holds left : H) (old mid new : CourseState) (said : Said) → LastLeads later holds old mid said
    → is_gone mid.phase ≡ true → (is_gone old.phase ≡ true → ⊥) → is_gone new.phase ≡ true → LastLeads later left old new said
ends_gone later holds left old mid new (Part out) leads gone there ends =
    absurd (there (ap (λ (c : CourseState). is_gone c.phase) (sym leads.0) ∙ gone))
ends_gone later holds left old mid new Nothing leads gone there ends =
    absurd (there (ap (λ (c : CourseState). is_gone c.phase) (sym leads.0) ∙ gone))
ends_gone later holds left old mid new Whole leads gone there ends = ends
ends_gone later holds left old mid new Broken leads gone there ends = ends

pub returns-in-None-clause-last : goal.returns-in-None-clause-last
returns-in-None-clause-last g c = λ status due.
    let last = c.take_refusal.ensures.last status due in
    let old = c.args.self.now.course in
    record {
      later = last.later;
      said = last.said;
      laid = last.laid;
      text = last.text;
      leads = ends_gone last.later _ _ old _ c.linger_on.new.self.course last.said last.leads (c.take_refusal.ensures.gone c.in-None.is)
          (is_owed old.phase old status due) c.linger_on.ensures.gone;
    }
