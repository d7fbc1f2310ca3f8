-- A user for which something is due may be lost: the course after that has a legal log too.
use Rattle.std.proofs.Common.{◌≡◌, true, sym, subst}
use Rattle.exchange_core.specs.declared.state.CourseState.{CourseState}
use Rattle.exchange_core.specs.declared.event.Event.TheVariants.{UserLost}
use Rattle.exchange_core.specs.Dues.{due_of, is_for_user}
use Rattle.exchange_core.specs.Log.{IsReached}
use Rattle.exchange_core.proofs.Reached.{reached_after}
use Rattle.exchange_core.proofs.Stepping.{goes_seen}
use Rattle.exchange_core.proofs.Doing.{loses_there}
use Rattle.exchange_core.proofs.course.Course.lost.Goals as goal

pub invariant_of-self : goal.invariant_of-self
invariant_of-self c =
    subst IsReached (sym c.after-self-inside.ensures)
    (reached_after c.self.inside.state UserLost c.self.invariant
    (loses_there c.self.inside.state c.self.invariant
    (subst (λ (d : CourseState). is_for_user (due_of d) ≡ true) (sym c.self.view_is) c.requires)))

pub returns-clause-goes : goal.returns-clause-goes
returns-clause-goes c =
    goes_seen c.args.self.now c.self.inside.state c.after-self-inside.result UserLost c.self.view_is
    (loses_there c.self.inside.state c.self.invariant
    (subst (λ (d : CourseState). is_for_user (due_of d) ≡ true) (sym c.self.view_is) c.requires))
    c.after-self-inside.ensures
