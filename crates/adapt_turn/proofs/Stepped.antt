-- What stands after a pass.
use Rattle.std.proofs.Common.{◌≡◌, true, false, List, [], Option, Some, None, refl, ◌∙◌, ap}
use Rattle.trace_core.specs.declared.history.Seen.{Seen}
use Rattle.trace_core.specs.declared.history.Event.{Event}
use Rattle.trace_core.specs.declared.history.Event.TheVariants.{Fail}
use Rattle.trace_core.specs.declared.history.Cause.{Cause}
use Rattle.trace_core.specs.Turns.{after_all}
use Rattle.adapt_hold.specs.Holding.{Holding, IsTied, shows, history_then, moved}
use Rattle.adapt_hold.proofs.Row.{Ran, ran}
use Rattle.adapt_hold.proofs.Closes.{then_shows}
use Rattle.adapt_turn.specs.declared.pass.PassAnswer.{PassAnswer}
use Rattle.adapt_turn.specs.Reports.{View, Report, Reported, stepped}

-- what a pass stepped ran from a tied holding, with the bytes that it brought
pub reported_ran : {F : Type 0} {v : View F} {h k : Holding} {r : Report} {passed : PassAnswer}
    → IsTied h → Reported v h k r passed
    → Ran h (stepped passed.failed r.events) r.out
reported_ran {F} {v} {h} {k} {r} {passed} t p = ran h (stepped passed.failed r.events) r.out t p.runs.roomy p.runs.may p.runs.carried
    p.runs.room

-- what is seen then
pub reported_shows : {F : Type 0} {v : View F} {h k : Holding} {r : Report} {passed : PassAnswer}
    → IsTied h → Reported v h k r passed
    → shows k.history ≡ after_all (shows h.history) (stepped passed.failed r.events)
reported_shows {F} {v} {h} {k} {r} {passed} t p =
    ap (λ (y : Holding). shows y.history) p.is ∙ (reported_ran t p).seen

-- what is seen after a failure is stepped is closed
over_by : (failed : Option Cause) (x y : Seen) (reported : List Event) (cause : Cause) → failed ≡ Some cause
    → y ≡ after_all x (stepped failed reported) → y.closed ≡ true
over_by None x y reported cause e s = absurd cc
over_by (Some c) x y reported cause e s = ap (λ (z : Seen). z.closed) s

-- a pass that failed closed the history
pub reported_over : {F : Type 0} {v : View F} {h k : Holding} {r : Report} {passed : PassAnswer}
    → IsTied h → Reported v h k r passed
    → (cause : Cause) → passed.failed ≡ Some cause → (shows k.history).closed ≡ true
reported_over {F} {v} {h} {k} {r} {passed} t p cause e =
    over_by passed.failed (shows h.history) (shows k.history) r.events cause e (reported_shows t p)

-- Fail closes; Retry doesn't.

-- a failure closes an open history
pub failed_closed : (h k : Holding) (cause : Cause) → IsTied h → (shows h.history).closed ≡ false → k ≡ moved h (Fail cause) []
    → (shows k.history).closed ≡ true
failed_closed h k cause t c e =
    ap (λ (x : Seen). x.closed) (ap (λ (y : Holding). shows y.history) e
    ∙ then_shows h (Fail cause) (history_then h.history (Fail cause)) t (c, tt) refl)
