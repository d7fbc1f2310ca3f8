-- A transaction that is halted to be taken apart keeps its plan, and its outcome where it was closed; an open one fails for the stop.
use Rattle.std.proofs.Common.{◌≡◌, ap, refl, Bool, true, false, []}
use Rattle.trace_core.specs.declared.history.Cause.TheVariants.{Stopping}
use Rattle.trace_core.specs.declared.history.Event.TheVariants as event
use Rattle.adapt_hold.specs.Holding.{Holding, shows, moved}
use Rattle.adapt_turn.specs.declared.turn.Outcome.{Outcome}
use Rattle.adapt_turn.specs.declared.turn.Outcome.TheVariants.{Fail}
use Rattle.shard_message.specs.Ended.{ended_as}
use Rattle.shard_message.proofs.taken.tx_of.Goals as goal

-- a transaction that is halted has the outcome that it had, or fails for the stop
halted_as : (closed : Bool) (old new : Outcome) → (closed ≡ true → new ≡ old) → (closed ≡ false → new ≡ Fail Stopping)
    → new ≡ ended_as closed old
halted_as true old new same fails = same refl
halted_as false old new same fails = fails refl

-- and it keeps its plan
keeps_plan : (closed : Bool) (old new : Holding) → (closed ≡ true → new ≡ old) → (closed ≡ false → new ≡ moved old (event.Fail Stopping) [])
    → (shows new.history).plan ≡ old.history.plan
keeps_plan true old new same fails = ap (λ (h : Holding). (shows h.history).plan) (same refl)
keeps_plan false old new same fails = ap (λ (h : Holding). (shows h.history).plan) (fails refl)

pub returns-clause-outcome : goal.returns-clause-outcome
returns-clause-outcome g c =
    let old = c.args.running.value in
    let new = c.halt.new.self in
    let same = rw c.deref_mut.ensures.value at c.halt.ensures.still in
    let fails = rw c.deref_mut.ensures.value at c.halt.ensures.halted in
    rw c.into_tx.ensures
    (rw c.into_inner.ensures
    (halted_as _ old.tx.outcome new.tx.outcome (λ e. ap (λ tx. tx.outcome) (same e)) fails))

pub returns-clause-plan : goal.returns-clause-plan
returns-clause-plan g c =
    let old = c.args.running.value in
    let new = c.halt.new.self in
    let same = rw c.deref_mut.ensures.value at c.halt.ensures.still in
    let fails = rw c.deref_mut.ensures.value at c.halt.ensures.failed in
    rw c.into_tx.ensures
    (rw c.into_inner.ensures
    (keeps_plan _ old.tx.hold new.tx.hold (λ e. ap (λ tx. tx.hold) (same e)) fails))
