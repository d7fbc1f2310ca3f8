-- After the end of a connection.
use Rattle.std.proofs.Common.{◌≡◌, ◌+◌, ◌≤◌, true, false, not, List, [], ◌∷◌, ◌++◌, sym, ◌∙◌, arith}
use Rattle.std.proofs.lemmas.Bool.Decides.{nat_tests}
use Rattle.exchange_core.specs.declared.event.Event.{Event}
use Rattle.exchange_core.specs.declared.event.RefusalCause.{RefusalCause}
use Rattle.exchange_core.specs.declared.state.CourseState.{CourseState}
use Rattle.exchange_core.specs.Course.{after}
use Rattle.exchange_core.specs.May.{may_come, is_refusing}
use Rattle.exchange_core.specs.Log.{course_of, IsLegal, AllAre, count, one_if, is_leaving, is_silent, is_parting, is_refused, KeepsTo}
use Rattle.exchange_core.specs.Log.{has_begun, is_half_out}
use Rattle.exchange_core.proofs.Sound.{Sound, sound}
use Rattle.exchange_core.proofs.Marks.{begun_stands, half_told_stands}

-- in a sound course at a refusal, no answer is begun
untouched_at : (c : CourseState) → Sound c → is_refusing c.phase ≡ true → c.begun ≡ false
untouched_at c s r = grind (arith, nat_tests)

-- where a legal log leads to a refusal, no byte of an answer that isn't whole went out
pub untouched : (events : List Event) → IsLegal events → is_refusing (course_of events).phase ≡ true → has_begun events ≡ false
untouched events l r = sym (begun_stands events) ∙ untouched_at (course_of events) (sound events l) r

-- in a sound course at a refusal, the text that tells the user isn't half out
whole_at : (c : CourseState) → Sound c → is_refusing c.phase ≡ true → c.half_told ≡ false
whole_at c s r = grind (arith, nat_tests)

-- where a legal log leads to a refusal, the text that tells the user isn't half out
pub whole : (events : List Event) → IsLegal events → is_refusing (course_of events).phase ≡ true → is_half_out events ≡ false
whole events l r = sym (half_told_stands events) ∙ whole_at (course_of events) (sound events l) r

-- where no further request is read, only an event of the parting may come
parting_step : (c : CourseState) (event : Event) → may_come c event ≡ true → is_leaving c.phase ≡ true → is_parting event ≡ true
parting_step c event m v = grind (arith, nat_tests)

-- where no further request is read, none is after an event
leaving_step : (c : CourseState) (event : Event) → may_come c event ≡ true → is_leaving c.phase ≡ true
    → is_leaving (after c event).phase ≡ true
leaving_step c event m v = grind (arith, nat_tests)

-- where no further request is read, none is after all further events of a legal log
pub leaving_stays : (more events : List Event) → IsLegal (more ++ events) → is_leaving (course_of events).phase ≡ true
    → is_leaving (course_of (more ++ events)).phase ≡ true
leaving_stays [] events l v = v
leaving_stays (event ∷ more) events l v = leaving_step (course_of (more ++ events)) event l.0 (leaving_stays more events l.1 v)

-- where no further request is read, all further events of a legal log are of the parting
pub parting : (more events : List Event) → IsLegal (more ++ events) → is_leaving (course_of events).phase ≡ true → AllAre is_parting more
parting [] events l v = tt
parting (event ∷ more) events l v =
    (parting_step (course_of (more ++ events)) event l.0 (leaving_stays more events l.1 v), parting more events l.1 v)

-- where all is said, all is said after an event
silent_step : (c : CourseState) (event : Event) → may_come c event ≡ true → is_silent c.phase ≡ true
    → is_silent (after c event).phase ≡ true
silent_step c event m v = grind (arith, nat_tests)

-- an event leaves it true that the same refusal goes on, or all is said
keeps_to_step : (c : CourseState) (event : Event) (why : RefusalCause) → may_come c event ≡ true → KeepsTo why c.phase
    → KeepsTo why (after c event).phase
keeps_to_step c event why m b = grind (arith, nat_tests)

-- all further events of a legal log leave it true that the same refusal goes on, or all is said
pub keeps_to : (more events : List Event) (why : RefusalCause) → IsLegal (more ++ events) → KeepsTo why (course_of events).phase
    → KeepsTo why (course_of (more ++ events)).phase
keeps_to [] events why l b = b
keeps_to (event ∷ more) events why l b = keeps_to_step (course_of (more ++ events)) event why l.0 (keeps_to more events why l.1 b)

-- a refusal goes out only where not all is said, and all is said after it
refused_step : (c : CourseState) (event : Event) → may_come c event ≡ true
    → one_if (is_refused event) + one_if (not (is_silent (after c event).phase)) ≤ one_if (not (is_silent c.phase))
refused_step c event m = grind (arith, nat_tests)

-- the refusals of a legal log, and one more where not all is said, are at most one
refused_room : (events : List Event) → IsLegal events → count is_refused events + one_if (not (is_silent (course_of events).phase)) ≤ 1
refused_room [] l = omega arith
refused_room (event ∷ before) l = omega (arith, refused_step (course_of before) event l.0, refused_room before l.1)

-- at most one refusal goes out in a legal log
pub one_refusal : (events : List Event) → IsLegal events → count is_refused events ≤ 1
one_refusal events l = omega (arith, refused_room events l)
