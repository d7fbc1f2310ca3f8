-- Where nothing moves, and where the proxy stops, few events are left.
use Rattle.std.proofs.Common.{◌≡◌, ℕ, ◌+◌, ◌≤◌, Bool, true, false, List, [], ◌∷◌, ◌++◌, length, refl, ◌∙◌, arith}
use Rattle.std.proofs.lemmas.Bool.Decides.{nat_tests}
use Rattle.exchange_core.specs.declared.event.Event.{Event}
use Rattle.exchange_core.specs.declared.event.Event.TheVariants.{Failed, UserLost, Late, Stop}
use Rattle.exchange_core.specs.declared.event.RefusalCause.TheVariants.{Deadline}
use Rattle.exchange_core.specs.declared.state.CourseState.{CourseState}
use Rattle.exchange_core.specs.declared.phase.Phase.{Phase}
use Rattle.exchange_core.specs.declared.phase.Phase.TheVariants.{Gone}
use Rattle.exchange_core.specs.Course.{after}
use Rattle.exchange_core.specs.May.{may_come, is_refusing, is_gone}
use Rattle.exchange_core.specs.Dues.{due_of, is_wait, is_for_leave}
use Rattle.exchange_core.specs.Log.{course_of, IsLegal, AllAre, count, one_if, is_failing, is_quiet, is_last, is_freeing, is_stop, stands}
use Rattle.exchange_core.specs.Log.{never, failures_from, held_by}
use Rattle.exchange_core.proofs.Sound.{Sound, sound}
use Rattle.exchange_core.proofs.Marks.{stopping_stands}

-- one event or the other says that a deadline passed
pub late_fails : (c : CourseState) → is_wait (due_of c) ≡ true → is_for_leave (due_of c) ≡ false → after c Late ≡ after c (Failed Deadline)
late_fails c w l = grind (arith, nat_tests)

-- a user that is let go at its deadline is gone once that has passed
pub late_lets_go : (c : CourseState) → is_for_leave (due_of c) ≡ true → (after c Late).phase ≡ Gone
late_lets_go c l = grind (arith, nat_tests)

-- of quiet events, each failure takes one from those that may still come
failing_step : (c : CourseState) (event : Event) → may_come c event ≡ true → is_quiet event ≡ true
    → one_if (is_failing event) + failures_from (after c event).phase ≤ failures_from c.phase
failing_step c event m q = grind (arith, nat_tests)

-- a quiet event leaves less held, or is a failure and leaves no more
free_step : (c : CourseState) (event : Event) → may_come c event ≡ true → is_quiet event ≡ true
    → 1 + held_by (after c event) ≤ one_if (is_failing event) + held_by c
free_step c event m q = grind (arith, nat_tests)

-- the failures among quiet events, and those that may still come, are at most those that might before
pub failures_fall : (more events : List Event) → IsLegal (more ++ events) → AllAre is_quiet more
    → count is_failing more + failures_from (course_of (more ++ events)).phase ≤ failures_from (course_of events).phase
failures_fall [] events l q = omega arith
failures_fall (event ∷ more) events l q =
    omega (arith, failing_step (course_of (more ++ events)) event l.0 q.0, failures_fall more events l.1 q.1)

-- quiet events and what is held after them are at most their failures and what was held before
frees : (more events : List Event) → IsLegal (more ++ events) → AllAre is_quiet more
    → length more + held_by (course_of (more ++ events)) ≤ count is_failing more + held_by (course_of events)
frees [] events l q = omega arith
frees (event ∷ more) events l q =
    omega (arith, free_step (course_of (more ++ events)) event l.0 q.0, frees more events l.1 q.1)

-- at most two failures may come, wherever a connection stands
two : (phase : Phase) → failures_from phase ≤ 2
two phase = grind (arith, nat_tests)

-- a course holds at most three things
three : (c : CourseState) → held_by c ≤ 3
three c = grind (arith, nat_tests)

-- at most two failures are among quiet events in a row
pub few_failures : (more events : List Event) → IsLegal (more ++ events) → AllAre is_quiet more → count is_failing more ≤ 2
few_failures more events l q = omega (arith, failures_fall more events l q, two (course_of events).phase)

-- at most five quiet events come in a row
pub few_quiet : (more events : List Event) → IsLegal (more ++ events) → AllAre is_quiet more → length more ≤ 5
few_quiet more events l q = omega (arith, few_failures more events l q, frees more events l q, three (course_of events))

-- what is left once the proxy stops
abbrev left : CourseState → ℕ
left c = one_if (is_refusing c.phase) + held_by c

-- once the proxy stops, only a refusal is tried or what is held goes back
last_step : (c : CourseState) (event : Event) → Sound c → c.stopping ≡ true → may_come c event ≡ true → is_last event ≡ true
last_step c event s p m = grind (arith, nat_tests)

-- once the proxy stops, each event leaves less to be done
left_step : (c : CourseState) (event : Event) → Sound c → c.stopping ≡ true → may_come c event ≡ true → 1 + left (after c event) ≤ left c
left_step c event s p m = grind (arith, nat_tests)

-- a proxy that stops still stops after an event
stopping_step : (c : CourseState) (event : Event) → c.stopping ≡ true → (after c event).stopping ≡ true
stopping_step c event p = grind (arith, nat_tests)

-- the proxy stops after the event of its stop
stops_at : (c : CourseState) → (after c Stop).stopping ≡ true
stops_at c = refl

-- the proxy stops after all events that follow a stop
stays_stopping : (more events : List Event) → (course_of (more ++ Stop ∷ events)).stopping ≡ true
stays_stopping [] events = refl
stays_stopping (event ∷ more) events = stopping_step (course_of (more ++ Stop ∷ events)) event (stays_stopping more events)

-- after a stop, all events are a refusal that is tried or what is held going back
pub last_ones : (more events : List Event) → IsLegal (more ++ Stop ∷ events) → AllAre is_last more
last_ones [] events l = tt
last_ones (event ∷ more) events l = (
  last_step (course_of (more ++ Stop ∷ events)) event (sound (more ++ Stop ∷ events) l.1) (stays_stopping more events) l.0,
  last_ones more events l.1,
)

-- the events after a stop, and what is left then, are at most what was left at it
left_falls : (more events : List Event) → IsLegal (more ++ Stop ∷ events)
    → length more + left (course_of (more ++ Stop ∷ events)) ≤ left (course_of (Stop ∷ events))
left_falls [] events l = omega arith
left_falls (event ∷ more) events l =
    omega (
      arith,
      left_step (course_of (more ++ Stop ∷ events)) event (sound (more ++ Stop ∷ events) l.1) (stays_stopping more events) l.0,
      left_falls more events l.1,
    )

-- a mark counts at most one
one : (b : Bool) → one_if b ≤ 1
one b = grind (arith, nat_tests)

-- at most four events come after a stop
pub few_last : (more events : List Event) → IsLegal (more ++ Stop ∷ events) → length more ≤ 4
few_last more events l =
    omega (arith, left_falls more events l, three (course_of (Stop ∷ events)), one (is_refusing (course_of (Stop ∷ events)).phase))

-- after a user's connection is over
gone_step : (c : CourseState) (event : Event) → may_come c event ≡ true → is_gone c.phase ≡ true → is_freeing event ≡ true
gone_step c event m g = grind (arith, nat_tests)

-- a user that is gone is still gone after an event
gone_stays_at : (c : CourseState) (event : Event) → may_come c event ≡ true → is_gone c.phase ≡ true → is_gone (after c event).phase ≡ true
gone_stays_at c event m g = grind (arith, nat_tests)

-- each event after the user is gone leaves less held
gone_frees : (c : CourseState) (event : Event) → may_come c event ≡ true → is_gone c.phase ≡ true → 1 + held_by (after c event) ≤ held_by c
gone_frees c event m g = grind (arith, nat_tests)

-- a user that is gone is still gone after all further events of a legal log
gone_stays : (more events : List Event) → IsLegal (more ++ events) → is_gone (course_of events).phase ≡ true
    → is_gone (course_of (more ++ events)).phase ≡ true
gone_stays [] events l g = g
gone_stays (event ∷ more) events l g = gone_stays_at (course_of (more ++ events)) event l.0 (gone_stays more events l.1 g)

-- all events after the user is gone give back what is held
pub only_frees : (more events : List Event) → IsLegal (more ++ events) → is_gone (course_of events).phase ≡ true → AllAre is_freeing more
only_frees [] events l g = tt
only_frees (event ∷ more) events l g =
    (gone_step (course_of (more ++ events)) event l.0 (gone_stays more events l.1 g), only_frees more events l.1 g)

-- the events after the user is gone, and what is held then, are at most what was held before them
held_falls : (more events : List Event) → IsLegal (more ++ events) → is_gone (course_of events).phase ≡ true
    → length more + held_by (course_of (more ++ events)) ≤ held_by (course_of events)
held_falls [] events l g = omega arith
held_falls (event ∷ more) events l g =
    omega (arith, gone_frees (course_of (more ++ events)) event l.0 (gone_stays more events l.1 g), held_falls more events l.1 g)

-- at most three events come after the user is gone
pub few_after_gone : (more events : List Event) → IsLegal (more ++ events) → is_gone (course_of events).phase ≡ true → length more ≤ 3
few_after_gone more events l g = omega (arith, held_falls more events l g, three (course_of events))

-- a user that isn't gone may be lost as long as the proxy doesn't stop
lost_at : (c : CourseState) → is_gone c.phase ≡ false → c.stopping ≡ false → may_come c UserLost ≡ true
lost_at c g p = grind (arith, nat_tests)

-- after a legal log with no stop, a user that isn't gone may be lost
pub lost_at_once : (events : List Event) → IsLegal events → is_gone (course_of events).phase ≡ false
    → stands is_stop never events ≡ false → may_come (course_of events) UserLost ≡ true
lost_at_once events l g p = lost_at (course_of events) g (stopping_stands events ∙ p)
