-- What comes of what is due, and fits what is there, may come: the course after it has a legal log too.
use Rattle.std.proofs.Common.{◌≡◌, true, sym, subst}
use Rattle.exchange_core.specs.declared.state.CourseState.{CourseState}
use Rattle.exchange_core.specs.Dues.{due_of, comes_of, fits}
use Rattle.exchange_core.specs.Log.{IsReached}
use Rattle.exchange_core.proofs.Reached.{reached_after}
use Rattle.exchange_core.proofs.Stepping.{goes_seen}
use Rattle.exchange_core.proofs.Doing.{done_there}
use Rattle.exchange_core.proofs.course.Course.done.Goals as goal

pub invariant_of-self : goal.invariant_of-self
invariant_of-self c =
    subst IsReached (sym c.after-self-inside.ensures)
    (reached_after c.self.inside.state c.args.event c.self.invariant
    (done_there c.self.inside.state c.args.event c.self.invariant
    (subst (λ (d : CourseState). comes_of (due_of d) c.args.event ≡ true) (sym c.self.view_is) c.requires.due)
    (subst (λ (d : CourseState). fits d c.args.event ≡ true) (sym c.self.view_is) c.requires.fits)))

pub returns-clause-goes : goal.returns-clause-goes
returns-clause-goes c =
    goes_seen c.args.self.now c.self.inside.state c.after-self-inside.result c.args.event c.self.view_is
    (done_there c.self.inside.state c.args.event c.self.invariant
    (subst (λ (d : CourseState). comes_of (due_of d) c.args.event ≡ true) (sym c.self.view_is) c.requires.due)
    (subst (λ (d : CourseState). fits d c.args.event ≡ true) (sym c.self.view_is) c.requires.fits))
    c.after-self-inside.ensures
