-- Once the proxy drains.
use Rattle.std.proofs.Common.{◌≡◌, ◌+◌, ◌≤◌, Bool, true, not, ◌&&◌, ◌||◌, List, [], ◌∷◌, ◌++◌, refl, ◌∙◌, arith}
use Rattle.std.proofs.lemmas.Bool.Decides.{nat_tests}
use Rattle.exchange_core.specs.declared.event.Event.{Event}
use Rattle.exchange_core.specs.declared.event.Event.TheVariants.{Answered, Drain}
use Rattle.exchange_core.specs.declared.phase.Phase.TheVariants.{Closing}
use Rattle.exchange_core.specs.declared.state.CourseState.{CourseState}
use Rattle.exchange_core.specs.Course.{after}
use Rattle.exchange_core.specs.May.{may_come, is_idle, is_head, is_at_gate, is_moving}
use Rattle.exchange_core.specs.Log.{course_of, IsLegal, count, one_if, is_request_read, is_last_answer}
use Rattle.exchange_core.proofs.Sound.{Sound, sound}
use Rattle.exchange_core.proofs.Marks.{closes_stands}

-- one more request may be read
abbrev may_ask_more : CourseState → Bool
may_ask_more c = is_idle c.phase || (is_head c.phase || ((is_at_gate c.phase || is_moving c.phase) && not c.closes))

-- while the proxy drains, a request is read only where one more may be, and none may be after it
one_step : (c : CourseState) (event : Event) → Sound c → c.draining ≡ true → may_come c event ≡ true
    → one_if (is_request_read event) + one_if (may_ask_more (after c event)) ≤ one_if (may_ask_more c)
one_step c event s d m = grind (arith, nat_tests)

-- a proxy that drains still drains after an event
draining_step : (c : CourseState) (event : Event) → c.draining ≡ true → (after c event).draining ≡ true
draining_step c event d = grind (arith, nat_tests)

-- the proxy drains after all events that follow a drain
stays_draining : (more events : List Event) → (course_of (more ++ Drain ∷ events)).draining ≡ true
stays_draining [] events = refl
stays_draining (event ∷ more) events = draining_step (course_of (more ++ Drain ∷ events)) event (stays_draining more events)

-- the requests read after a drain, and one that may still be, are at most the one that might be at it
one_room : (more events : List Event) → IsLegal (more ++ Drain ∷ events)
    → count is_request_read more + one_if (may_ask_more (course_of (more ++ Drain ∷ events)))
    ≤ one_if (may_ask_more (course_of (Drain ∷ events)))
one_room [] events l = omega arith
one_room (event ∷ more) events l =
    omega (
      arith,
      one_step (course_of (more ++ Drain ∷ events)) event (sound (more ++ Drain ∷ events) l.1) (stays_draining more events) l.0,
      one_room more events l.1,
    )

-- a mark counts at most one
one : (b : Bool) → one_if b ≤ 1
one b = grind (arith, nat_tests)

-- at most one more request is read after a drain
pub one_more : (more events : List Event) → IsLegal (more ++ Drain ∷ events) → count is_request_read more ≤ 1
one_more more events l = omega (arith, one_room more events l, one (may_ask_more (course_of (Drain ∷ events))))

-- an answer that is marked as the last one leads to the closing, even one that says to keep the connection
closes_at : (c : CourseState) (keeps lasts : Bool) → c.closes ≡ true → (after c (Answered keeps lasts)).phase ≡ Closing
closes_at c keeps lasts d = grind (arith, nat_tests)

-- after an answer whose transaction started while the proxy drained, the connection closes
pub closes : (events : List Event) (keeps lasts : Bool) → IsLegal (Answered keeps lasts ∷ events)
    → is_last_answer events ≡ true → (course_of (Answered keeps lasts ∷ events)).phase ≡ Closing
closes events keeps lasts l d = closes_at (course_of events) keeps lasts (closes_stands events ∙ d)
