-- An origin's connection is kept only after its answer.
use Rattle.std.proofs.Common.{◌≡◌, Bool, true, false, not, ◌&&◌, ◌||◌, List, [], ◌∷◌, sym, ◌∙◌, arith}
use Rattle.std.proofs.lemmas.Bool.Decides.{nat_tests}
use Rattle.exchange_core.specs.declared.event.Event.{Event}
use Rattle.exchange_core.specs.declared.event.Event.TheVariants.{HungUp}
use Rattle.exchange_core.specs.declared.state.CourseState.{CourseState}
use Rattle.exchange_core.specs.Course.{after, point_of, lasts_after}
use Rattle.exchange_core.specs.May.{may_come, is_idle, is_answer, is_request}
use Rattle.exchange_core.specs.Log.{course_of, IsLegal, stands, is_kept_on, has_request, is_response_read, is_request_read, is_lasting}
use Rattle.exchange_core.specs.Log.{is_withdrawn, is_leaving, is_drain, is_stop, never}
use Rattle.exchange_core.proofs.Carrying.{carried}
use Rattle.exchange_core.proofs.Marks.{lasts_stands, draining_stands, stopping_stands}
use Rattle.exchange_core.proofs.Moving.{responds}
use Rattle.exchange_core.proofs.Turning.{sent_at_answer}

-- of two, one is true where the first is
either : (a b : Bool) → a ≡ true → (a || b) ≡ true
either a b q = grind (arith, nat_tests)

-- an origin's connection is kept only where it lasts
lasts_at : (c : CourseState) → may_come c (HungUp true) ≡ true → c.lasts ≡ true
lasts_at c m = grind (arith, nat_tests)

-- an origin's connection is kept only by a proxy that neither drains nor stops
goes_on_at : (c : CourseState) → may_come c (HungUp true) ≡ true → (c.draining ≡ false) × (c.stopping ≡ false)
goes_on_at c m = grind (arith, nat_tests)

-- a proxy that drains or stops keeps none
pub kept_if_it_goes_on : (events : List Event) → IsLegal (HungUp true ∷ events)
    → (stands is_drain never events ≡ false) × (stands is_stop never events ≡ false)
kept_if_it_goes_on events l =
    let h = goes_on_at (course_of events) l.0 in
    (sym (draining_stands events) ∙ h.0, sym (stopping_stands events) ∙ h.1)

-- an origin's connection is kept only where its answer was read whole and it is still open
pub kept_if_it_lasts : (events : List Event) → IsLegal (HungUp true ∷ events) → is_kept_on events ≡ true
kept_if_it_lasts events l = sym (lasts_stands events) ∙ lasts_at (course_of events) l.0

-- no request is read, or withdrawn, as long as it lasts
lasts_alone : (c : CourseState) (event : Event) → (c.lasts ≡ true → (c.origin && (is_idle c.phase || is_leaving c.phase)) ≡ true)
    → may_come c event ≡ true
    → (is_request_read event || is_withdrawn event) ≡ true → c.lasts ≡ false
lasts_alone c event k m b = grind (arith, nat_tests)

-- only the answer of a response says that the origin's connection lasts
response_at : (c : CourseState) (event : Event) → may_come c event ≡ true → is_lasting event ≡ true → is_request (point_of c.phase) ≡ false
response_at c event m b = grind (arith, nat_tests)

-- an event leaves it true that a response's head was read where the origin's connection lasts
read_step : (event : Event) (lasts read : Bool) → (is_request_read event ≡ true → lasts ≡ false) → (is_lasting event ≡ true → read ≡ true)
    → (lasts ≡ true → read ≡ true)
    → lasts_after lasts event ≡ true → (is_response_read event || (not (is_request_read event) && read)) ≡ true
read_step event lasts read a b r v = grind (arith, nat_tests)

-- after a legal log, a response's head was read for the newest request where the origin's connection lasts
read : (events : List Event) → IsLegal events → (course_of events).lasts ≡ true → stands is_response_read is_request_read events ≡ true
read [] l v = grind (arith, nat_tests)
read (event ∷ before) l v =
    let c = course_of before in
    read_step event c.lasts (stands is_response_read is_request_read before)
    (λ q. lasts_alone c event (carried before l.1).lasts l.0 (either (is_request_read event) (is_withdrawn event) q))
    (λ q. responds before l.1 (response_at c event l.0 q)) (read before l.1) v

-- an origin's connection is kept only after the head of its response was read
pub kept_if_read : (events : List Event) → IsLegal (HungUp true ∷ events) → stands is_response_read is_request_read events ≡ true
kept_if_read events l = read events l.1 (lasts_at (course_of events) l.0)

-- the origin had the whole request before its response
sent_step : (c : CourseState) (before : List Event) (event : Event) → may_come c event ≡ true
    → (is_answer c.phase ≡ true → has_request before ≡ true)
    → (is_request (point_of c.phase) ≡ false → has_request before ≡ true) → is_request (point_of (after c event).phase) ≡ false
    → has_request (event ∷ before) ≡ true
sent_step c before event m a r v = grind (arith, nat_tests)

-- after a legal log that leads to a response, the origin has the whole request
sent : (events : List Event) → IsLegal events → is_request (point_of (course_of events).phase) ≡ false → has_request events ≡ true
sent [] l v = grind (arith, nat_tests)
sent (event ∷ before) l v = sent_step (course_of before) before event l.0 (sent_at_answer before l.1) (sent before l.1) v

-- an event leaves it true that the origin has the whole request where its connection lasts
had_step : (before : List Event) (event : Event) (lasts : Bool) → ((is_request_read event || is_withdrawn event) ≡ true → lasts ≡ false)
    → (is_lasting event ≡ true → has_request before ≡ true) → (lasts ≡ true → has_request before ≡ true)
    → lasts_after lasts event ≡ true → has_request (event ∷ before) ≡ true
had_step before event lasts a b r v = grind (arith, nat_tests)

-- after a legal log, the origin has the whole request where its connection lasts
had : (events : List Event) → IsLegal events → (course_of events).lasts ≡ true → has_request events ≡ true
had [] l v = grind (arith, nat_tests)
had (event ∷ before) l v =
    let c = course_of before in
    had_step before event c.lasts (lasts_alone c event (carried before l.1).lasts l.0)
    (λ q. sent before l.1 (response_at c event l.0 q)) (had before l.1) v

-- an origin's connection is kept only where the origin has the whole request
pub kept_if_sent : (events : List Event) → IsLegal (HungUp true ∷ events) → has_request events ≡ true
kept_if_sent events l = had events l.1 (lasts_at (course_of events) l.0)
