-- How a history ends, told by its newest event.
use Rattle.std.proofs.Common.{◌≡◌, ℕ, ◌⊎◌, inl, inr, Bool, true, false, ◌||◌, List, [], ◌∷◌, Option, Some, None, refl, sym, ◌∙◌, ap, subst}
use Rattle.std.proofs.lemmas.Bool.{false≢true}
use Rattle.trace_core.specs.declared.history.Seen.{Seen}
use Rattle.trace_core.specs.declared.history.Plan.{Plan}
use Rattle.trace_core.specs.declared.history.Event.{Event}
use Rattle.trace_core.specs.declared.history.Event.TheVariants.{Done, Fail}
use Rattle.trace_core.specs.declared.history.Cause.{Cause}
use Rattle.trace_core.specs.declared.history.Cause.TheVariants.{Deadline}
use Rattle.trace_core.specs.History.{History, seen, is_close}
use Rattle.trace_core.specs.Norm.{norm}
use Rattle.trace_core.specs.View.{after}
use Rattle.trace_core.specs.Turns.{after_all, MayAllFollow, AllAre}
use Rattle.adapt_hold.specs.Holding.{Holding, IsTied, shows, history_then, moved}
use Rattle.adapt_hold.specs.Steps.{history_all, moved_all}
use Rattle.adapt_hold.proofs.Row.{Ran}
use Rattle.adapt_turn.specs.declared.pass.PassAnswer.{PassAnswer}
use Rattle.adapt_turn.specs.declared.turn.Outcome.{Outcome}
use Rattle.adapt_turn.specs.declared.turn.Outcome.TheVariants as outcomes
use Rattle.adapt_turn.specs.Reports.{View, Report, Reported, stepped, outcome_by, outcome_of}
use Rattle.adapt_turn.specs.Stands.{IsDone}
use Rattle.adapt_turn.proofs.Stepped.{reported_ran}
use Rattle.adapt_turn.proofs.Carry.{off_hop}

-- events of which none closes don't end as a failure
open_of : (plan : Plan) (events : List Event) → (seen plan events).closed ≡ false → outcome_of events ≡ outcomes.Done
open_of plan [] c = refl
open_of plan (Fail cause ∷ before) c = absurd (false≢true (sym c))
open_of plan (_ ∷ before) c = refl

-- an open one hasn't failed
pub open_done : (history : History) → (shows history).closed ≡ false → outcome_of history.events ≡ outcomes.Done
open_done history c = open_of history.plan history.events c

-- an event that closes stays the newest one in short form
newest_close : (event : Event) (events : List Event) → is_close event ≡ true → norm (event ∷ events) ≡ event ∷ norm events
newest_close Done events e = refl
newest_close (Fail cause) events e = refl
newest_close _ events e = absurd (false≢true e)

-- of two marks of which one stands and the second doesn't, the first stands
closes_now : (b c : Bool) → c ≡ false → b || c ≡ true → b ≡ true
closes_now true c e f = refl
closes_now false c e f = absurd (false≢true (sym e ∙ f))

-- what closed a history is its newest event, and one of those that were stepped
pub record ClosedBy (history : History) (events : List Event) : Type 0 where
  pub event : Event
  pub before : List Event
  pub is : (history_all history events).events ≡ event ∷ before
  pub close : is_close event ≡ true
  pub of : (test : Event → Bool) → AllAre test events → test event ≡ true

-- what closed an open history is its newest event, and one of those that were stepped
pub closed_by : (history : History) (x : Seen) (events : List Event) → x.closed ≡ false → MayAllFollow x events
    → (after_all x events).closed ≡ true → ClosedBy history events
closed_by history x [] c m e = absurd (false≢true (sym c ∙ e))
closed_by history x (event ∷ []) c m e =
    let k : is_close event ≡ true = closes_now (is_close event) x.closed c e in
    record { event = event; before = norm history.events; is = newest_close event history.events k; close = k; of = λ test o. o.0 }
closed_by history x (event ∷ (second ∷ events)) c m e =
    let w = closed_by (history_then history event) (after x event) (second ∷ events) m.2.0 m.2 e in
    record { event = w.event; before = w.before; is = w.is; close = w.close; of = λ test o. w.of test o.1 }

-- events of which none is the writer's end no history by Done

-- an event that closes and isn't the next hop's doesn't end a history as done
never : (event : Event) (before : List Event) → is_close event ≡ true → off_hop event ≡ true → outcome_of (event ∷ before) ≡ outcomes.Done
    → ⊥
never (Fail cause) before c o e = let d : outcomes.Fail cause ≡ outcomes.Done = e in absurd cc
never Done before c o e = absurd (false≢true o)
never _ before c o e = absurd (false≢true c)

-- events of which none is the next hop's don't end an open history as done
pub never_done : (h : Holding) (events : List Event) (bytes : List ℕ) → (shows h.history).closed ≡ false
    → MayAllFollow (shows h.history) events → Ran h events bytes
    → AllAre off_hop events → IsDone (moved_all h events bytes).history → ⊥
never_done h events bytes c m r o d =
    let w = closed_by h.history (shows h.history) events c m (sym (ap (λ (x : Seen). x.closed) r.seen) ∙ d.0) in
    never w.event w.before w.close (w.of off_hop o) (sym (ap outcome_of (ap (λ (y : History). y.events) r.history ∙ w.is)) ∙ d.1)

-- A pass ends a history as it says.

-- an event that closes and passes a test that no failure passes ends a history as done
done_close : (test : Event → Bool) → ((cause : Cause) → test (Fail cause) ≡ false) → (event : Event) (before : List Event)
    → is_close event ≡ true → test event ≡ true → outcome_of (event ∷ before) ≡ outcomes.Done
done_close test none (Fail cause) before c o = absurd (false≢true (sym (none cause) ∙ o))
done_close test none (_) before c o = refl

-- what is stepped of a report whose events are no failures ends an open history as the report says
told_run : (test : Event → Bool) → ((cause : Cause) → test (Fail cause) ≡ false)
    → (h : Holding) (bytes : List ℕ) (failed : Option Cause) (reported : List Event)
    → (shows h.history).closed ≡ false → MayAllFollow (shows h.history) (stepped failed reported) → Ran h (stepped failed reported) bytes
    → AllAre test reported
    → outcome_by failed ≡ outcome_of (moved_all h (stepped failed reported) bytes).history.events
told_run test none h bytes (Some cause) reported c m r o = refl
told_run test none h bytes None reported c m r o = by_close (after_all (shows h.history) reported).closed refl
  where
    by_close : (b : Bool) → (after_all (shows h.history) reported).closed ≡ b
        → outcomes.Done ≡ outcome_of (moved_all h reported bytes).history.events
    by_close false e = sym (open_done (moved_all h reported bytes).history (ap (λ (x : Seen). x.closed) r.seen ∙ e))
    by_close true e =
        let w = closed_by h.history (shows h.history) reported c m e in
        sym (ap outcome_of (ap (λ (y : History). y.events) r.history ∙ w.is) ∙ done_close test none w.event w.before w.close (w.of test o))

-- a pass of an open transaction ends its history as the pass says
pub reported_told : {F : Type 0} {v : View F} {h k : Holding} {r : Report} {passed : PassAnswer}
    → ((cause : Cause) → v.events (Fail cause) ≡ false) → IsTied h → (shows h.history).closed ≡ false
    → Reported v h k r passed
    → outcome_by passed.failed ≡ outcome_of k.history.events
reported_told {F} {v} {h} {k} {r} {passed} none t c p =
    told_run v.events none h r.out passed.failed r.events c p.runs.may (reported_ran t p) p.only
    ∙ ap (λ (y : Holding). outcome_of y.history.events) (sym p.is)

-- where a history ends as done, what was reported closed it
pub done_reported : (h : Holding) (bytes : List ℕ) (failed : Option Cause) (reported : List Event) → Ran h (stepped failed reported) bytes
    → IsDone (moved_all h (stepped failed reported) bytes).history → (after_all (shows h.history) reported).closed ≡ true
done_reported h bytes None reported r d = sym (ap (λ (x : Seen). x.closed) r.seen) ∙ d.0
done_reported h bytes (Some cause) reported r d = let e : outcomes.Fail cause ≡ outcomes.Done = d.1 in absurd cc

-- a history that a failure moved on ends as that failure
pub failed_told : (h k : Holding) (cause : Cause) → k ≡ moved h (Fail cause) [] → outcomes.Fail cause ≡ outcome_of k.history.events
failed_told h k cause e = sym (ap (λ (y : Holding). outcome_of y.history.events) e)

-- a closed one that ended by Done
pub done_told : (h k : Holding) (outcome : Outcome) → outcome ≡ outcome_of h.history.events → k ≡ h → (shows h.history).closed ≡ true
    → outcomes.Done ≡ outcome → IsDone k.history
done_told h k outcome told same c e = subst (λ (y : Holding). IsDone y.history) (sym same) (c, sym told ∙ sym e)

-- a history that ended by a failure isn't done
pub failed_undone : (history : History) (outcome : Outcome) (cause : Cause) → outcome ≡ outcome_of history.events
    → outcome ≡ outcomes.Fail cause → IsDone history → ⊥
failed_undone history outcome cause e f d = let g : outcomes.Fail cause ≡ outcomes.Done = sym f ∙ e ∙ d.1 in absurd cc

-- events that end as a failure have closed their history
over_of : (plan : Plan) (events : List Event) (cause : Cause) → outcome_of events ≡ outcomes.Fail cause → (seen plan events).closed ≡ true
over_of plan (Fail why ∷ before) cause e = refl
over_of plan [] cause e = let d : outcomes.Done ≡ outcomes.Fail cause = e in absurd cc
over_of plan (_ ∷ before) cause e = let d : outcomes.Done ≡ outcomes.Fail cause = e in absurd cc

-- one that failed is closed
pub failed_over : (history : History) (outcome : Outcome) (cause : Cause) → outcome ≡ outcome_of history.events
    → outcome ≡ outcomes.Fail cause → (shows history).closed ≡ true
failed_over history outcome cause e f = over_of history.plan history.events cause (sym e ∙ f)

-- a turn at the moment of the last moved byte
pub same_moment : (new old : ℕ) → (new ≡ old) ⊎ (new ≡ old) → new ≡ old
same_moment new old (inl e) = e
same_moment new old (inr e) = e

-- a schedule that ended by the deadline did so at its first turn, or at a later one
pub timely_then : (closed : Bool) (seconds : ℕ) (mid new : Outcome) → (mid ≡ outcomes.Fail Deadline → seconds ≡ 0)
    → (closed ≡ true → new ≡ mid) → (closed ≡ false → seconds ≡ 0)
    → new ≡ outcomes.Fail Deadline → seconds ≡ 0
timely_then true seconds mid new first same later e = first (sym (same refl) ∙ e)
timely_then false seconds mid new first same later e = later refl
