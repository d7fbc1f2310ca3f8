-- Once the last refusal was tried, all that is held goes back, along events that may come.
use Rattle.std.proofs.Common.{◌≡◌, subst}
use Rattle.exchange_core.specs.declared.state.CourseState.{CourseState}
use Rattle.exchange_core.proofs.Stepping.{goes_on}
use Rattle.shard_exchange.specs.Leaving.{ReturnsAll}
use Rattle.shard_exchange.proofs.exchange.Exchange.end_refusal.Goals as goal

pub returns-clause-goes : goal.returns-clause-goes
returns-clause-goes g c = goes_on _ _ _ c.done.ensures.goes c.free.ensures.goes

-- what was held goes back once the refusal was tried
tried : (returns hangs_up : CourseState → CourseState → Type 0) (met mid new : CourseState) → mid ≡ met → ReturnsAll returns hangs_up mid new
    → ReturnsAll returns hangs_up met new
tried returns hangs_up met mid new same back = subst (λ (c : CourseState). ReturnsAll returns hangs_up c new) same back

pub returns-clause-back : goal.returns-clause-back
returns-clause-back g c = tried _ _ _ _ _ c.done.ensures.after c.free.ensures.back
