-- Where a message failed and no byte of an answer is out, its user is owed the refusal of that cause; a good end is told as one.
use Rattle.std.proofs.Common.{◌≡◌, Bool, true, false, if◌then◌else◌, ap, refl, sym, ◌∙◌, subst}
use Rattle.std.proofs.lemmas.Bool.{false≢true}
use Rattle.exchange_core.specs.declared.state.CourseState.{CourseState}
use Rattle.exchange_core.specs.Course.{after, is_mid_text}
use Rattle.exchange_core.specs.Dues.{status_of}
use Rattle.exchange_core.specs.declared.event.Event.TheVariants.{Begun}
use Rattle.exchange_core.specs.May.{may_come, is_refusing}
use Rattle.exchange_core.proofs.Stepping.{goes_on}
use Rattle.shard_exchange.specs.Ends.{IsTold, begun_with, refusal_at, served_with}
use Rattle.shard_exchange.proofs.course.tell.Goals as goal

pub returns-then-tell_begun-clause-goes : goal.returns-then-tell_begun-clause-goes
returns-then-tell_begun-clause-goes c = goes_on _ _ _ c.tell_begun.ensures.goes
    (goes_on _ _ _ c.tell_served.ensures.goes (goes_on _ _ _ c.tell_end.ensures.goes c.tell_cut.ensures.goes))

-- no byte of an answer is out, so the course is as before where the message ends
pub returns-then-tell_begun-clause-owed : goal.returns-then-tell_begun-clause-owed
returns-then-tell_begun-clause-owed c why fails unanswered uncut no_text =
    let begun = (c.tell_begun.ensures.same unanswered).1 in
    let text = c.tell_served.ensures.text ∙ (ap (λ (d : CourseState). is_mid_text d) begun ∙ no_text) in
    let owed = c.tell_end.ensures.owed why fails text in
    subst (λ (d : CourseState). (is_refusing d.phase ≡ true) × (refusal_at d.phase ≡ status_of why))
    (sym (c.tell_cut.ensures.same uncut)) owed

-- so it is where the request can't be had again for want of memory
pub returns-then-tell_begun-clause-wanting : goal.returns-then-tell_begun-clause-wanting
returns-then-tell_begun-clause-wanting c wants unanswered uncut no_text =
    let begun = (c.tell_begun.ensures.same unanswered).1 in
    let text = c.tell_served.ensures.text ∙ (ap (λ (d : CourseState). is_mid_text d) begun ∙ no_text) in
    let owed = c.tell_end.ensures.wanting wants text in
    subst (λ (d : CourseState). (is_refusing d.phase ≡ true) × (refusal_at d.phase ≡ 502)) (sym (c.tell_cut.ensures.same uncut)) owed

-- a good end is told of the course as it is then
pub returns-then-tell_begun-clause-succeeds : goal.returns-then-tell_begun-clause-succeeds
returns-then-tell_begun-clause-succeeds c = λ uncut known.
    let begun = c.tell_begun.ensures.told c.if-tell_begun.true in
    let served = c.tell_served.ensures.told ∙ ap (λ (d : CourseState). served_with c.args.report.served d) begun in
    subst (λ (d : CourseState).
    IsTold (served_with c.args.report.served (begun_with c.args.report.has_answered c.args.course.now)) d c.args.report.end)
    (sym (c.tell_cut.ensures.same uncut))
    (subst (λ (d : CourseState). IsTold d c.tell_end.new.course c.args.report.end) served c.tell_end.ensures.succeeds)

-- the course can't know of an answer that may not begin
unknown : (answered : Bool) (old : CourseState) → (answered ≡ false → false ≡ true) → may_come old Begun ≡ false → old.begun ≡ false
    → (answered ≡ true → (begun_with answered old).begun ≡ true) → false ≡ true
unknown true old some none begun known =
    sym begun ∙ subst (λ (may : Bool). (if may then after old Begun else old).begun ≡ true) none (known refl)
unknown false old some none begun known = some refl

pub returns-else-tell_begun-clause-succeeds : goal.returns-else-tell_begun-clause-succeeds
returns-else-tell_begun-clause-succeeds c = λ uncut known.
    let none = c.tell_begun.ensures.none c.if-tell_begun.false in
    absurd (false≢true (unknown c.args.report.has_answered c.args.course.now
    (λ quiet. sym c.if-tell_begun.false ∙ (c.tell_begun.ensures.same quiet).0) none.0 none.1 known))
