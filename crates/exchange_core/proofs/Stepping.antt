-- Events that may come lead from course to course.
use Rattle.std.proofs.Common.{◌≡◌, true, List, [], ◌∷◌, ◌++◌, refl, sym, ◌∙◌, ap, subst}
use Rattle.exchange_core.specs.declared.event.Event.{Event}
use Rattle.exchange_core.specs.declared.state.CourseState.{CourseState}
use Rattle.exchange_core.specs.Course.{after}
use Rattle.exchange_core.specs.May.{may_come}
use Rattle.exchange_core.specs.Log.{led_from, MayFollow, Goes, IsReached}
use Rattle.exchange_core.proofs.Reached.{reached_after}

-- a course leads to itself
pub goes_nowhere : (c : CourseState) → Goes c c
goes_nowhere c = ([], tt, refl)

-- one event that may come leads from a course to the one after it
pub goes_once : (c : CourseState) (event : Event) → may_come c event ≡ true → Goes c (after c event)
goes_once c event m = (event ∷ [], (m, tt), refl)

-- seen through a view of the course
pub goes_seen : (a b d : CourseState) (event : Event) → b ≡ a → may_come b event ≡ true → d ≡ after b event → Goes a d
goes_seen a b d event view m e = (
  event ∷ [],
  (subst (λ (x : CourseState). may_come x event ≡ true) view m, tt),
  ap (λ (x : CourseState). after x event) (sym view) ∙ sym e,
)

-- two lists of events lead where the second leads from where the first does
led_on : (c : CourseState) (more events : List Event) → led_from c (more ++ events) ≡ led_from (led_from c events) more
led_on c [] events = refl
led_on c (event ∷ more) events = ap (λ d. after d event) (led_on c more events)

-- events that may follow others may come with them, from the course that those begin at
follow_on : (c : CourseState) (more events : List Event) → MayFollow (led_from c events) more → MayFollow c events
    → MayFollow c (more ++ events)
follow_on c [] events m e = e
follow_on c (event ∷ more) events m e =
    (subst (λ d. may_come d event ≡ true) (sym (led_on c more events)) m.0, follow_on c more events m.1 e)

-- where one course leads to a second, and that to a third, the first leads to the third
pub goes_on : (a b c : CourseState) → Goes a b → Goes b c → Goes a c
goes_on a b c first second = (
  second.0 ++ first.0,
  follow_on a second.0 first.0 (subst (λ d. MayFollow d second.0) (sym first.2) second.1) first.1,
  led_on a second.0 first.0 ∙ (ap (λ d. led_from d second.0) first.2 ∙ second.2),
)

-- events that may come lead from a course that is reached to another one
reached_by : (c : CourseState) (events : List Event) → IsReached c → MayFollow c events → IsReached (led_from c events)
reached_by c [] r m = r
reached_by c (event ∷ before) r m = reached_after (led_from c before) event (reached_by c before r m.1) m.0

-- a course to which one that is reached leads is reached
pub reached_there : (a b : CourseState) → IsReached a → Goes a b → IsReached b
reached_there a b r g = subst IsReached g.2 (reached_by a g.0 r g.1)
