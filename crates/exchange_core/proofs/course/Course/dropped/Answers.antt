-- While no request is under way the user may be dropped: the course after that has a legal log too.
use Rattle.std.proofs.Common.{◌≡◌, true, sym, subst}
use Rattle.exchange_core.specs.declared.state.CourseState.{CourseState}
use Rattle.exchange_core.specs.declared.event.Event.TheVariants.{Dropped}
use Rattle.exchange_core.specs.Dues.{due_of, is_between}
use Rattle.exchange_core.specs.Log.{IsReached}
use Rattle.exchange_core.proofs.Reached.{reached_after}
use Rattle.exchange_core.proofs.Stepping.{goes_seen}
use Rattle.exchange_core.proofs.Doing.{drops_there}
use Rattle.exchange_core.proofs.course.Course.dropped.Goals as goal

pub invariant_of-self : goal.invariant_of-self
invariant_of-self c =
    subst IsReached (sym c.after-self-inside.ensures)
    (reached_after c.self.inside.state Dropped c.self.invariant
    (drops_there c.self.inside.state c.self.invariant
    (subst (λ (d : CourseState). is_between (due_of d) ≡ true) (sym c.self.view_is) c.requires)))

pub returns-clause-goes : goal.returns-clause-goes
returns-clause-goes c =
    goes_seen c.args.self.now c.self.inside.state c.after-self-inside.result Dropped c.self.view_is
    (drops_there c.self.inside.state c.self.invariant
    (subst (λ (d : CourseState). is_between (due_of d) ≡ true) (sym c.self.view_is) c.requires))
    c.after-self-inside.ensures
