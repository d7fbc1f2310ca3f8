-- While a user is served there is no stop; who queues has no lease or reservation; a turn has reservation and origin.
use Rattle.std.proofs.Common.{◌≡◌, true, false, sym, ◌∙◌, ap, subst}
use Rattle.exchange_core.specs.declared.state.CourseState.{CourseState}
use Rattle.exchange_core.proofs.Doing.{serves_there, queues_there, starts_there, turns_there, hears_there}
use Rattle.exchange_core.specs.May.{is_free}
use Rattle.exchange_core.specs.Dues.{is_for_user}
use Rattle.exchange_core.proofs.course.Course.due.Goals as goal

pub returns-clause-serves : goal.returns-clause-serves
returns-clause-serves c = λ r. subst (λ (d : CourseState). d.stopping ≡ false) c.self.view_is
    (serves_there c.self.inside.state c.self.invariant (ap is_for_user (sym c.due.ensures) ∙ r))

pub returns-clause-queues : goal.returns-clause-queues
returns-clause-queues c = λ r. subst (λ (d : CourseState). is_free d ≡ true) c.self.view_is
    (queues_there c.self.inside.state c.self.invariant (sym c.due.ensures ∙ r))

pub returns-clause-starts : goal.returns-clause-starts
returns-clause-starts c = λ r. subst (λ (d : CourseState). (d.stake ≡ true) × (d.origin ≡ true)) c.self.view_is
    (starts_there c.self.inside.state c.self.invariant (sym c.due.ensures ∙ r))

pub returns-clause-turns : goal.returns-clause-turns
returns-clause-turns c = λ r. subst (λ (d : CourseState). (d.stake ≡ true) × (d.origin ≡ true)) c.self.view_is
    (turns_there c.self.inside.state c.self.invariant (sym c.due.ensures ∙ r))

pub returns-clause-hears : goal.returns-clause-hears
returns-clause-hears c = λ r. subst (λ (d : CourseState). d.origin ≡ true) c.self.view_is
    (hears_there c.self.inside.state c.self.invariant (sym c.due.ensures ∙ r))
