-- Which event may come next.
use Rattle.std.specs.Prelude.{Bool, true, false, not, ◌&&◌, ◌||◌, if◌then◌else◌}
use Rattle.trace_core.specs.declared.history.Point.{Point}
use Rattle.trace_core.specs.declared.history.Point.TheVariants.{Reqmod, Respmod}
use Rattle.exchange_core.specs.declared.event.Event.{Event}
use Rattle.exchange_core.specs.declared.event.Event.TheVariants.{HeadBegun, RequestRead, ResponseRead, Stale, Queued, Lent, Asked, Learned}
use Rattle.exchange_core.specs.declared.event.Event.TheVariants.{Planned, Reserved, HalfTold, Stuck, Told, Dialed, Started, LetPass}
use Rattle.exchange_core.specs.declared.event.Event.TheVariants.{Renewed, Served, Begun, Sent, Heard, Withdrawn, Answered, Failed, Returned}
use Rattle.exchange_core.specs.declared.event.Event.TheVariants.{Released, HungUp, Refused, UserClosed, UserLost, Dropped, Late, Drain}
use Rattle.exchange_core.specs.declared.event.Event.TheVariants.{Stop, Tried}
use Rattle.exchange_core.specs.declared.phase.Phase.{Phase}
use Rattle.exchange_core.specs.declared.phase.Phase.TheVariants.{Idle, Head, Planning, Asking, InQueue, Preparing, Telling, AtGate, Moving}
use Rattle.exchange_core.specs.declared.phase.Phase.TheVariants.{Answer, Withdrawing, Refusing, Closing, Gone}
use Rattle.exchange_core.specs.declared.state.CourseState.{CourseState}
use Rattle.exchange_core.specs.declared.dialing.Dialing.{Dialing}
use Rattle.exchange_core.specs.declared.dialing.Dialing.TheVariants.{Fresh, KeptFirst}
use Rattle.exchange_core.specs.Course.{is_leased, is_ready, is_in_use, is_spent, is_reused, point_of, is_offered}

abbrev pub is_idle : Phase → Bool
is_idle Idle = true
is_idle _ = false

abbrev pub is_head : Phase → Bool
is_head Head = true
is_head _ = false

abbrev pub is_planning : Phase → Bool
is_planning (Planning point) = true
is_planning _ = false

abbrev pub is_asking : Phase → Bool
is_asking (Asking point) = true
is_asking _ = false

abbrev pub is_in_queue : Phase → Bool
is_in_queue (InQueue point) = true
is_in_queue _ = false

abbrev pub is_preparing : Phase → Bool
is_preparing (Preparing point offered waits) = true
is_preparing _ = false

abbrev pub is_telling : Phase → Bool
is_telling Telling = true
is_telling _ = false

abbrev pub is_at_gate : Phase → Bool
is_at_gate (AtGate point offered) = true
is_at_gate _ = false

abbrev pub is_moving : Phase → Bool
is_moving (Moving point offered) = true
is_moving _ = false

abbrev pub is_answer : Phase → Bool
is_answer Answer = true
is_answer _ = false

abbrev pub is_withdrawing : Phase → Bool
is_withdrawing Withdrawing = true
is_withdrawing _ = false

abbrev pub is_refusing : Phase → Bool
is_refusing (Refusing why) = true
is_refusing _ = false

abbrev pub is_closing : Phase → Bool
is_closing Closing = true
is_closing _ = false

abbrev pub is_gone : Phase → Bool
is_gone Gone = true
is_gone _ = false

-- of a request, and not of a response
abbrev pub is_request : Point → Bool
is_request Reqmod = true
is_request Respmod = false

-- its user waits to be told
abbrev pub waits_of : Phase → Bool
waits_of (Preparing point offered waits) = waits
waits_of _ = false

-- no lease, no reservation
abbrev pub is_free : CourseState → Bool
is_free c = not (is_leased c.connection) && not c.stake

-- nor a connection to the origin
abbrev pub holds_nothing : CourseState → Bool
holds_nothing c = is_free c && not c.origin

-- one leased connection serves the question for options, or the offer
abbrev pub wants_connection : Phase → Bool
wants_connection (Asking point) = true
wants_connection (Preparing point offered waits) = offered
wants_connection _ = false

-- A service's connection in use isn't given back: one that is asked, one that a plan or an offer waits for, and one on which the
-- service still has to say something of a message that goes on.
abbrev pub needs_connection : Phase → (in_use : Bool) → Bool
needs_connection (Planning point) in_use = true
needs_connection (Asking point) in_use = true
needs_connection (Preparing point offered waits) in_use = offered
needs_connection (AtGate point offered) in_use = true
needs_connection (Moving point offered) in_use = in_use
needs_connection _ in_use = false

-- a reservation stays open as long as its message goes on
abbrev pub needs_stake : Phase → Bool
needs_stake phase = is_preparing phase || (is_at_gate phase || is_moving phase)

-- an origin's connection is open from the request to the answer, or until either fails or is withdrawn
abbrev pub needs_origin : Phase → Bool
needs_origin Idle = false
needs_origin Head = false
needs_origin Telling = false
needs_origin Withdrawing = false
needs_origin (Refusing why) = false
needs_origin Closing = false
needs_origin Gone = false
needs_origin _ = true

-- a request is out, or on its way, that the origin may answer
abbrev pub awaits_origin : Phase → Bool
awaits_origin (Moving point offered) = is_request point
awaits_origin Answer = true
awaits_origin _ = false

-- the message may be planned: what a withdrawn one held has gone back
abbrev pub is_to_plan : CourseState → Bool
is_to_plan c = is_planning c.phase || (is_withdrawing c.phase && holds_nothing c)

-- the request may go out on a kept connection: it may be sent again, and wasn't withdrawn from one
abbrev pub may_take_kept : CourseState → Bool
may_take_kept c = c.repeatable && not c.withdrawn

-- how the origin of the request is to be dialed
abbrev pub dialing_of : CourseState → Dialing
dialing_of c = if may_take_kept c then KeptFirst else Fresh

-- the origin's connection may be kept for later exchanges: it lasts, and the proxy neither drains nor stops
abbrev pub may_keep_origin : CourseState → Bool
may_keep_origin c = c.lasts && (not c.draining && not c.stopping)

-- the connection that an offer wants is there, or none, and the reservation
abbrev pub is_provided : CourseState → Bool
is_provided c = is_preparing c.phase
    && ((if is_offered c.phase then is_ready c.connection else not (is_leased c.connection)) && c.stake)

-- its user doesn't wait, or was told
abbrev pub is_bidden : CourseState → Bool
is_bidden c = not (waits_of c.phase) || c.told

-- the text that tells a user is due: a connection and a reservation are there, or were there and nothing is held
abbrev pub may_tell : CourseState → Bool
may_tell c = not c.told && ((waits_of c.phase && is_provided c) || (is_telling c.phase && holds_nothing c))

-- a message, or the head before it, may go no further
abbrev pub may_fail : Phase → Bool
may_fail (Refusing why) = false
may_fail Closing = false
may_fail Gone = false
may_fail _ = true

-- the exchange waits for somebody else there
abbrev pub may_wait : Phase → Bool
may_wait (Planning point) = false
may_wait (Preparing point offered waits) = false
may_wait (AtGate point offered) = false
may_wait Withdrawing = false
may_wait Gone = false
may_wait _ = true

-- the user's connection may be closed at once there: no request of it is under way
abbrev pub may_drop : Phase → Bool
may_drop Idle = true
may_drop Head = true
may_drop Closing = true
may_drop _ = false

-- it ends a connection, or brings its end nearer
abbrev pub ends_with : Event → Bool
ends_with Refused = true
ends_with UserClosed = true
ends_with UserLost = true
ends_with Dropped = true
ends_with Late = true
ends_with Drain = true
ends_with Stop = true
ends_with Tried = true
ends_with _ = false

-- a message moves with it, what is held goes back, or the connection ends
abbrev pub goes_on_with : Event → Bool
goes_on_with LetPass = true
goes_on_with Renewed = true
goes_on_with (Served usable) = true
goes_on_with Begun = true
goes_on_with Sent = true
goes_on_with Heard = true
goes_on_with Withdrawn = true
goes_on_with (Answered keeps lasts) = true
goes_on_with (Returned kept) = true
goes_on_with Released = true
goes_on_with (HungUp kept) = true
goes_on_with event = ends_with event

abbrev pub may_come : CourseState → Event → Bool
-- the next request is read once nothing of the one before is held
may_come c HeadBegun = is_idle c.phase && holds_nothing c
may_come c RequestRead = is_head c.phase && holds_nothing c
may_come c ResponseRead = is_answer c.phase && is_free c
-- options: learned at most once for a message, on a connection that is leased for it
may_come c Stale = is_to_plan c && (not c.asked && not (is_spent c.connection))
-- who waits for a connection has no other one, but for the origin whose response waits
may_come c Queued = wants_connection c.phase && (is_free c && (not (is_request (point_of c.phase)) || not c.origin))
may_come c (Lent reused) = (wants_connection c.phase || is_in_queue c.phase) && not (is_leased c.connection)
may_come c Asked = is_asking c.phase && is_ready c.connection
may_come c (Learned usable) = is_asking c.phase && is_in_use c.connection
-- a response's user isn't told to send a body, nor one that was told before
may_come c (Planned offered waits repeatable) = is_to_plan c
    && (not (is_spent c.connection) && (not waits || (is_request (point_of c.phase) && not c.told)))
may_come c Reserved = is_preparing c.phase && not c.stake
may_come c HalfTold = may_tell c && not c.half_told
may_come c Stuck = waits_of c.phase && (is_provided c && not c.told)
may_come c Told = may_tell c
-- the origin is opened last: once for a request, and once more for one that was withdrawn
may_come c (Dialed kept) = is_provided c
    && (is_bidden c && (is_request (point_of c.phase) && (not c.origin && (not kept || may_take_kept c))))
may_come c Started = is_provided c && (is_bidden c && c.origin)
may_come c LetPass = is_at_gate c.phase
-- a connection that was used before may have been closed meanwhile: a fresh one takes its place, once
may_come c Renewed = is_in_use c.connection && (is_reused c.connection && (is_asking c.phase || (is_moving c.phase && not c.begun)))
may_come c (Served usable) = is_moving c.phase && is_in_use c.connection
-- an answer is the origin's, or that of the service which was offered the request
may_come c Begun = is_moving c.phase && (not c.begun && (not (is_request (point_of c.phase)) || is_offered c.phase))
may_come c Sent = is_moving c.phase && (is_request (point_of c.phase) && (not c.begun && not (is_in_use c.connection)))
may_come c Heard = awaits_origin c.phase && not c.heard
-- a kept connection may have been closed meanwhile: the request goes back to its plan, as long as nothing was answered
may_come c Withdrawn = awaits_origin c.phase && (c.kept && (not c.heard && not c.begun))
-- the origin's connection lasts only where the answer was the origin's
may_come c (Answered keeps lasts) = is_moving c.phase
    && (c.begun && (not (is_in_use c.connection) && (not lasts || not (is_request (point_of c.phase)))))
may_come c (Failed why) = may_fail c.phase
-- what is held goes back once nothing needs it; a connection is kept only where it may serve again
may_come c (Returned kept) = is_leased c.connection
    && ((is_spent c.connection || not (needs_connection c.phase (is_in_use c.connection))) && (not kept || is_ready c.connection))
may_come c Released = c.stake && not (needs_stake c.phase)
may_come c (HungUp kept) = c.origin && (not (needs_origin c.phase) && (not kept || may_keep_origin c))
-- the user is waited for with nothing held
may_come c Refused = is_refusing c.phase && (holds_nothing c && not c.stopping)
may_come c UserClosed = is_closing c.phase && holds_nothing c
may_come c UserLost = not (is_gone c.phase) && not c.stopping
may_come c Dropped = may_drop c.phase && not c.stopping
may_come c Late = may_wait c.phase && not c.stopping
may_come c Drain = not (is_gone c.phase) && (not c.draining && not c.stopping)
may_come c Stop = not (is_gone c.phase) && not c.stopping
may_come c Tried = is_refusing c.phase && c.stopping
