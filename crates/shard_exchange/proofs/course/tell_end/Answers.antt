-- A request sent without memory for its response is told as sent, and then fails; an answer is told as one.
use Rattle.std.proofs.Common.{◌≡◌, Bool, true, false, ap, subst, sym, ◌∙◌}
use Rattle.exchange_core.specs.declared.state.CourseState.{CourseState}
use Rattle.exchange_core.specs.declared.event.Event.TheVariants.{Failed, Sent}
use Rattle.exchange_core.specs.declared.event.RefusalCause.TheVariants.{Scarce}
use Rattle.exchange_core.specs.Course.{after}
use Rattle.exchange_core.specs.May.{may_come}
use Rattle.exchange_core.proofs.Stepping.{goes_on}
use Rattle.shard_exchange.specs.declared.ends.End.{End}
use Rattle.shard_exchange.specs.declared.ends.End.TheVariants as ends
use Rattle.shard_exchange.specs.Ends.{IsTold}
use Rattle.shard_exchange.proofs.course.tell_end.Goals as goal

pub returns-then-may-clause-goes : goal.returns-then-may-clause-goes
returns-then-may-clause-goes c = goes_on _ _ _ c.take_or_fail.ensures.goes c.take.ensures.goes

-- all was sent, and memory was wanting for the response
wants : (memory : Bool) (old mid new : CourseState) → memory ≡ false → (may_come old Sent ≡ true → mid ≡ after old Sent)
    → new ≡ after mid (Failed Scarce) → IsTold old new (ends.Sent memory)
wants false old mid new wanting sent fails = λ may. fails ∙ ap (λ (c : CourseState). after c (Failed Scarce)) (sent may)
wants true old mid new wanting sent fails = absurd cc

pub returns-then-may-clause-succeeds : goal.returns-then-may-clause-succeeds
returns-then-may-clause-succeeds c =
    subst (λ (end : End). IsTold c.args.course.now c.take.new.self end) (sym c.in-Sent.is)
    (wants c.in-Sent.has_memory c.args.course.now c.take_or_fail.new.course c.take.new.self c.if-not-has_memory.true
    c.take_or_fail.ensures.taken c.take.ensures.after)

-- an answer is told as one
pub returns-in-Answered-clause-succeeds : goal.returns-in-Answered-clause-succeeds
returns-in-Answered-clause-succeeds c =
    subst (λ (end : End). IsTold c.args.course.now c.take_or_fail-in-Answered.new.course end) (sym c.in-Answered.is)
    (λ may. c.take_or_fail-in-Answered.ensures.taken may)
