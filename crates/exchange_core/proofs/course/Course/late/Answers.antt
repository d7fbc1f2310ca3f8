-- Where what is due may have to wait, a deadline may pass: the course after it has a legal log too.
use Rattle.std.proofs.Common.{◌≡◌, true, sym, subst}
use Rattle.exchange_core.specs.declared.state.CourseState.{CourseState}
use Rattle.exchange_core.specs.declared.event.Event.TheVariants.{Late}
use Rattle.exchange_core.specs.Dues.{due_of, is_wait}
use Rattle.exchange_core.specs.Log.{IsReached}
use Rattle.exchange_core.proofs.Reached.{reached_after}
use Rattle.exchange_core.proofs.Stepping.{goes_seen}
use Rattle.exchange_core.proofs.Doing.{late_there}
use Rattle.exchange_core.proofs.course.Course.late.Goals as goal

pub invariant_of-self : goal.invariant_of-self
invariant_of-self c =
    subst IsReached (sym c.after-self-inside.ensures)
    (reached_after c.self.inside.state Late c.self.invariant
    (late_there c.self.inside.state c.self.invariant
    (subst (λ (d : CourseState). is_wait (due_of d) ≡ true) (sym c.self.view_is) c.requires)))

pub returns-clause-goes : goal.returns-clause-goes
returns-clause-goes c =
    goes_seen c.args.self.now c.self.inside.state c.after-self-inside.result Late c.self.view_is
    (late_there c.self.inside.state c.self.invariant
    (subst (λ (d : CourseState). is_wait (due_of d) ≡ true) (sym c.self.view_is) c.requires))
    c.after-self-inside.ensures
