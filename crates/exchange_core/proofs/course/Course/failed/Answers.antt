-- Where what is due fails of a cause, that failure may come: the course after it has a legal log too.
use Rattle.std.proofs.Common.{◌≡◌, true, sym, subst}
use Rattle.exchange_core.specs.declared.state.CourseState.{CourseState}
use Rattle.exchange_core.specs.declared.event.Event.TheVariants.{Failed}
use Rattle.exchange_core.specs.Dues.{due_of, fails_of}
use Rattle.exchange_core.specs.Log.{IsReached}
use Rattle.exchange_core.proofs.Reached.{reached_after}
use Rattle.exchange_core.proofs.Stepping.{goes_seen}
use Rattle.exchange_core.proofs.Doing.{fails_so}
use Rattle.exchange_core.proofs.course.Course.failed.Goals as goal

pub invariant_of-self : goal.invariant_of-self
invariant_of-self c =
    subst IsReached (sym c.after-self-inside.ensures)
    (reached_after c.self.inside.state (Failed c.args.why) c.self.invariant
    (fails_so c.self.inside.state c.args.why
    (subst (λ (d : CourseState). fails_of (due_of d) c.args.why ≡ true) (sym c.self.view_is) c.requires)))

pub returns-clause-goes : goal.returns-clause-goes
returns-clause-goes c =
    goes_seen c.args.self.now c.self.inside.state c.after-self-inside.result (Failed c.args.why) c.self.view_is
    (fails_so c.self.inside.state c.args.why
    (subst (λ (d : CourseState). fails_of (due_of d) c.args.why ≡ true) (sym c.self.view_is) c.requires))
    c.after-self-inside.ensures
