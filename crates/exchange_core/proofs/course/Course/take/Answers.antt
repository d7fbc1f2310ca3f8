-- An event that may come leads from a course with a legal log to another one with a legal log.
use Rattle.std.proofs.Common.{◌≡◌, true, sym, subst}
use Rattle.exchange_core.specs.declared.state.CourseState.{CourseState}
use Rattle.exchange_core.specs.May.{may_come}
use Rattle.exchange_core.specs.Log.{IsReached}
use Rattle.exchange_core.proofs.Reached.{reached_after}
use Rattle.exchange_core.proofs.Stepping.{goes_seen}
use Rattle.exchange_core.proofs.course.Course.take.Goals as goal

pub invariant_of-self : goal.invariant_of-self
invariant_of-self c =
    subst IsReached (sym c.after-self-inside.ensures)
    (reached_after c.self.inside.state c.args.event c.self.invariant
    (subst (λ (d : CourseState). may_come d c.args.event ≡ true) (sym c.self.view_is) c.requires))

pub returns-clause-goes : goal.returns-clause-goes
returns-clause-goes c =
    goes_seen c.args.self.now c.self.inside.state c.after-self-inside.result c.args.event c.self.view_is
    (subst (λ (d : CourseState). may_come d c.args.event ≡ true) (sym c.self.view_is) c.requires)
    c.after-self-inside.ensures
