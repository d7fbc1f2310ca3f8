-- The service's connection while a message goes on.
use Rattle.std.proofs.Common.{◌≡◌, Bool, true, false, List, [], ◌∷◌, arith}
use Rattle.std.proofs.lemmas.Bool.Decides.{nat_tests}
use Rattle.exchange_core.specs.declared.event.Event.{Event}
use Rattle.exchange_core.specs.declared.event.Event.TheVariants.{Returned}
use Rattle.exchange_core.specs.declared.state.CourseState.{CourseState}
use Rattle.exchange_core.specs.Course.{after, is_in_use, is_ready, is_leased, is_offered}
use Rattle.exchange_core.specs.May.{may_come, is_moving, is_at_gate}
use Rattle.exchange_core.specs.Log.{course_of, IsLegal, has_served, usable_after, is_usable, is_out}

-- at the gate the connection is ready; after it either the service still has to say something, or it has said all
pub record Serves (c : CourseState) (served : Bool) : Type 0 where
  pub gate : is_at_gate c.phase ≡ true → is_offered c.phase ≡ true → is_ready c.connection ≡ true
  pub rest : is_moving c.phase ≡ true → is_leased c.connection ≡ true → is_in_use c.connection ≡ false → served ≡ true
  pub quiet : is_moving c.phase ≡ true → is_offered c.phase ≡ true → is_in_use c.connection ≡ false → served ≡ true
  pub plain : is_moving c.phase ≡ true → is_offered c.phase ≡ false → is_leased c.connection ≡ false
  pub plain_gate : is_at_gate c.phase ≡ true → is_offered c.phase ≡ false → is_leased c.connection ≡ false

-- an event leaves it true that an offered message at the gate has its connection ready
gate_step : (c : CourseState) (before : List Event) (event : Event) → Serves c (has_served before) → may_come c event ≡ true
    → is_at_gate (after c event).phase ≡ true → is_offered (after c event).phase ≡ true → is_ready (after c event).connection ≡ true
gate_step c before event s m = grind (arith, nat_tests)

-- an event leaves it true that, where a message moves and its leased connection isn't in use, the service has said all
rest_step : (c : CourseState) (before : List Event) (event : Event) → Serves c (has_served before) → may_come c event ≡ true
    → is_moving (after c event).phase ≡ true → is_leased (after c event).connection ≡ true → is_in_use (after c event).connection ≡ false
    → has_served (event ∷ before) ≡ true
rest_step c before event s m = grind (arith, nat_tests)

-- an event leaves it true that, where an offered message moves with no connection in use, the service has said all
quiet_step : (c : CourseState) (before : List Event) (event : Event) → Serves c (has_served before) → may_come c event ≡ true
    → is_moving (after c event).phase ≡ true → is_offered (after c event).phase ≡ true → is_in_use (after c event).connection ≡ false
    → has_served (event ∷ before) ≡ true
quiet_step c before event s m = grind (arith, nat_tests)

-- an event leaves it true that a message which moves and isn't offered has no connection leased
plain_step : (c : CourseState) (before : List Event) (event : Event) → Serves c (has_served before) → may_come c event ≡ true
    → is_moving (after c event).phase ≡ true → is_offered (after c event).phase ≡ false → is_leased (after c event).connection ≡ false
plain_step c before event s m = grind (arith, nat_tests)

-- an event leaves it true that a message at the gate which isn't offered has no connection leased
plain_gate_step : (c : CourseState) (before : List Event) (event : Event) → Serves c (has_served before) → may_come c event ≡ true
    → is_at_gate (after c event).phase ≡ true → is_offered (after c event).phase ≡ false → is_leased (after c event).connection ≡ false
plain_gate_step c before event s m = grind (arith, nat_tests)

-- wherever a legal log leads, a service's connection is ready at the gate, and then in use or the service has said all
pub serves : (events : List Event) → IsLegal events → Serves (course_of events) (has_served events)
serves [] l = record {
  gate = grind (arith, nat_tests);
  rest = grind (arith, nat_tests);
  quiet = grind (arith, nat_tests);
  plain = grind (arith, nat_tests);
  plain_gate = grind (arith, nat_tests);
}
serves (event ∷ before) l =
    let s = serves before l.1 in record {
      gate = gate_step (course_of before) before event s l.0;
      rest = rest_step (course_of before) before event s l.0;
      quiet = quiet_step (course_of before) before event s l.0;
      plain = plain_step (course_of before) before event s l.0;
      plain_gate = plain_gate_step (course_of before) before event s l.0;
    }

-- where a message moves, a connection may go back only if the service has said all
returned_at : (c : CourseState) (served kept : Bool) → Serves c served → may_come c (Returned kept) ≡ true → is_moving c.phase ≡ true
    → served ≡ true
returned_at c served kept s m v = grind (arith, nat_tests)

-- a connection goes back in the midst of a message only once the service has said all
pub returned_once_served : (events : List Event) (kept : Bool) → IsLegal (Returned kept ∷ events)
    → is_moving (course_of events).phase ≡ true → has_served events ≡ true
returned_once_served events kept l v = returned_at (course_of events) (has_served events) kept (serves events l.1) l.0 v

-- a service's connection is kept only where it is ready
pub kept_if_ready : (c : CourseState) → may_come c (Returned true) ≡ true → is_ready c.connection ≡ true
kept_if_ready c m = grind (arith, nat_tests)

-- a connection that may serve again was said to be one
usable_step : (c : CourseState) (usable : Bool) (event : Event) → may_come c event ≡ true → (is_ready c.connection ≡ true → usable ≡ true)
    → is_ready (after c event).connection ≡ true → usable_after usable event ≡ true
usable_step c usable event m u r = grind (arith, nat_tests)

-- after a legal log, a connection that is ready was said to serve again
usable_at : (events : List Event) → IsLegal events → is_ready (course_of events).connection ≡ true → is_usable events ≡ true
usable_at [] l r = grind (arith, nat_tests)
usable_at (event ∷ before) l r = usable_step (course_of before) (is_usable before) event l.0 (usable_at before l.1) r

-- a service's connection is kept only where it was said to serve again
pub kept_if_usable : (events : List Event) → IsLegal (Returned true ∷ events) → is_usable events ≡ true
kept_if_usable events l = usable_at events l.1 (kept_if_ready (course_of events) l.0)

-- an offered message may be out only if the service has said all
out_at : (c : CourseState) (served : Bool) (event : Event) → Serves c served → may_come c event ≡ true → is_out event ≡ true
    → is_offered c.phase ≡ true → served ≡ true
out_at c served event s m o f = grind (arith, nat_tests)

-- an offered message is out only once the service has said all
pub out_once_served : (events : List Event) (event : Event) → IsLegal (event ∷ events) → is_out event ≡ true
    → is_offered (course_of events).phase ≡ true → has_served events ≡ true
out_once_served events event l o f = out_at (course_of events) (has_served events) event (serves events l.1) l.0 o f
