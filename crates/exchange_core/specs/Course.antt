-- Where a user's connection stands and what it holds, mark by mark: what each event makes of it.
use Rattle.std.specs.Prelude.{Bool, true, false, not, ◌&&◌, ◌||◌, if◌then◌else◌}
use Rattle.trace_core.specs.declared.history.Point.{Point}
use Rattle.trace_core.specs.declared.history.Point.TheVariants.{Reqmod, Respmod}
use Rattle.exchange_core.specs.declared.event.RefusalCause.{RefusalCause}
use Rattle.exchange_core.specs.declared.event.RefusalCause.TheVariants as causes
use Rattle.exchange_core.specs.declared.event.Event.{Event}
use Rattle.exchange_core.specs.declared.event.Event.TheVariants.{HeadBegun, RequestRead, ResponseRead, Stale, Queued, Lent, Asked, Learned}
use Rattle.exchange_core.specs.declared.event.Event.TheVariants.{Planned, Reserved, HalfTold, Stuck, Told, Dialed, Started, LetPass}
use Rattle.exchange_core.specs.declared.event.Event.TheVariants.{Renewed, Served, Begun, Sent, Heard, Withdrawn, Answered, Failed, Returned}
use Rattle.exchange_core.specs.declared.event.Event.TheVariants.{Released, HungUp, Refused, UserClosed, UserLost, Dropped, Late, Drain}
use Rattle.exchange_core.specs.declared.event.Event.TheVariants.{Stop, Tried}
use Rattle.exchange_core.specs.declared.connection.Connection.{Connection}
use Rattle.exchange_core.specs.declared.connection.Connection.TheVariants.{Absent, Ready, InUse, Spent}
use Rattle.exchange_core.specs.declared.phase.Phase.{Phase}
use Rattle.exchange_core.specs.declared.phase.Phase.TheVariants.{Idle, Head, Planning, Asking, InQueue, Preparing, Telling, AtGate, Moving}
use Rattle.exchange_core.specs.declared.phase.Phase.TheVariants.{Answer, Withdrawing, Refusing, Closing, Gone}
use Rattle.exchange_core.specs.declared.state.CourseState.{CourseState}

-- The service's connection.

abbrev pub is_leased : Connection → Bool
is_leased Absent = false
is_leased _ = true

abbrev pub is_ready : Connection → Bool
is_ready (Ready reused) = true
is_ready _ = false

abbrev pub is_in_use : Connection → Bool
is_in_use (InUse reused) = true
is_in_use _ = false

abbrev pub is_spent : Connection → Bool
is_spent Spent = true
is_spent _ = false

abbrev pub is_reused : Connection → Bool
is_reused (Ready reused) = reused
is_reused (InUse reused) = reused
is_reused _ = false

-- a request goes out on it
abbrev pub in_use : Connection → Connection
in_use (Ready reused) = InUse reused
in_use connection = connection

-- the service has said all on it, and it may serve again or not
abbrev pub said : Connection → (usable : Bool) → Connection
said (InUse reused) usable = if usable then Ready reused else Spent
said connection usable = connection

-- the service has said its options on it, and it may serve again or not: what serves again was used before
abbrev pub learned : Connection → (usable : Bool) → Connection
learned (InUse reused) usable = if usable then Ready true else Spent
learned connection usable = connection

-- a fresh one stands in its place
abbrev pub renewed : Connection → Connection
renewed (InUse reused) = InUse false
renewed connection = connection

-- what an event makes of it
abbrev pub connection_after : Connection → Event → Connection
connection_after connection (Lent reused) = Ready reused
connection_after connection (Returned kept) = Absent
connection_after connection Asked = in_use connection
connection_after connection LetPass = in_use connection
connection_after connection (Learned usable) = learned connection usable
connection_after connection (Served usable) = said connection usable
connection_after connection Renewed = renewed connection
connection_after connection _ = connection

-- The other marks.

-- a reservation is open
abbrev pub stake_after : Bool → Event → Bool
stake_after stake Reserved = true
stake_after stake Released = false
stake_after stake _ = stake

-- the origin's connection is open
abbrev pub origin_after : Bool → Event → Bool
origin_after origin (Dialed kept) = true
origin_after origin (HungUp kept) = false
origin_after origin _ = origin

-- the origin's newest connection was kept from an earlier exchange
abbrev pub kept_after : Bool → Event → Bool
kept_after before (Dialed kept) = kept
kept_after before _ = before

-- the origin's connection lasts: its answer was read whole, and another request may go out there
abbrev pub lasts_after : Bool → Event → Bool
lasts_after before (Answered keeps lasts) = lasts
lasts_after before (HungUp kept) = false
lasts_after before _ = before

-- the service said its options since the message's head was read
abbrev pub asked_after : Bool → Event → Bool
asked_after asked (Learned usable) = true
asked_after asked RequestRead = false
asked_after asked ResponseRead = false
asked_after asked _ = asked

-- the newest plan says that its message may be sent again
abbrev pub repeatable_after : Bool → Event → Bool
repeatable_after before (Planned offered waits repeatable) = repeatable
repeatable_after before _ = before

-- the request was withdrawn from a kept connection
abbrev pub withdrawn_after : Bool → Event → Bool
withdrawn_after withdrawn Withdrawn = true
withdrawn_after withdrawn RequestRead = false
withdrawn_after withdrawn _ = withdrawn

-- a byte of the origin's answer was read since the request's head was read
abbrev pub heard_after : Bool → Event → Bool
heard_after heard Heard = true
heard_after heard ResponseRead = true
heard_after heard RequestRead = false
heard_after heard _ = heard

-- the user was told to send its body since its request's head was read
abbrev pub told_after : Bool → Event → Bool
told_after told Told = true
told_after told RequestRead = false
told_after told _ = told

-- a part of the text that tells it went out, and not all
abbrev pub half_told_after : Bool → Event → Bool
half_told_after half_told HalfTold = true
half_told_after half_told Told = false
half_told_after half_told RequestRead = false
half_told_after half_told _ = half_told

-- a byte of an answer that isn't whole yet went to the user
abbrev pub begun_after : Bool → Event → Bool
begun_after begun Begun = true
begun_after begun RequestRead = false
begun_after begun (Answered keeps lasts) = false
begun_after begun _ = begun

-- the answer of the message that moves is the last one of its connection: its transaction started while the proxy drained
abbrev pub closes_after : (draining closes : Bool) → Event → Bool
closes_after draining closes Started = draining
closes_after draining closes RequestRead = false
closes_after draining closes (Answered keeps lasts) = false
closes_after draining closes _ = closes

-- the proxy drains
abbrev pub draining_after : Bool → Event → Bool
draining_after draining Drain = true
draining_after draining _ = draining

-- the proxy stops
abbrev pub stopping_after : Bool → Event → Bool
stopping_after stopping Stop = true
stopping_after stopping _ = stopping

-- The phase.

abbrev pub point_of : Phase → Point
point_of (Planning point) = point
point_of (Asking point) = point
point_of (InQueue point) = point
point_of (Preparing point offered waits) = point
point_of (AtGate point offered) = point
point_of (Moving point offered) = point
point_of _ = Reqmod

-- the message is offered to its service
abbrev pub is_offered : Phase → Bool
is_offered (Preparing point offered waits) = offered
is_offered (AtGate point offered) = offered
is_offered (Moving point offered) = offered
is_offered _ = false

-- what a user got of this request makes no whole text yet: a refusal after that would be read as a part of it
abbrev pub is_mid_text : CourseState → Bool
is_mid_text c = c.begun || c.half_told

-- a refusal is due exactly where it stands alone; else the connection is cut
abbrev pub phase_when_failed : CourseState → RefusalCause → Phase
phase_when_failed c why = if is_mid_text c then Closing else Refusing why

-- a message that doesn't move has failed, and so has one that waits for a connection; a user that sends no head, or takes no
-- refusal, is let go
abbrev pub late_from : Phase → CourseState → Phase
late_from (Asking point) c = phase_when_failed c causes.Deadline
late_from (InQueue point) c = phase_when_failed c causes.Deadline
late_from Telling c = phase_when_failed c causes.Deadline
late_from (Moving point offered) c = phase_when_failed c causes.Deadline
late_from Answer c = phase_when_failed c causes.Deadline
late_from _ c = Gone

abbrev pub phase_when_late : CourseState → Phase
phase_when_late c = late_from c.phase c

-- a refusal that goes out stays due; a request to which nothing was answered is refused
abbrev pub stop_from : Phase → CourseState → Phase
stop_from (Refusing why) c = Refusing why
stop_from Idle c = Gone
stop_from Head c = Gone
stop_from Closing c = Gone
stop_from Gone c = Gone
stop_from _ c = if is_mid_text c then Gone else Refusing causes.Stopping

abbrev pub phase_when_stopping : CourseState → Phase
phase_when_stopping c = stop_from c.phase c

-- a message that waited for a connection is planned anew
abbrev pub lent_from : Phase → Phase
lent_from (InQueue point) = Planning point
lent_from phase = phase

-- so is the request of a user that had to be waited for until it was told
abbrev pub told_from : Phase → Phase
told_from Telling = Planning Reqmod
told_from phase = phase

abbrev pub phase_after : CourseState → Event → Phase
phase_after c HeadBegun = Head
phase_after c RequestRead = Planning Reqmod
phase_after c ResponseRead = Planning Respmod
phase_after c Stale = Asking (point_of c.phase)
phase_after c Queued = InQueue (point_of c.phase)
phase_after c (Lent reused) = lent_from c.phase
phase_after c (Learned usable) = Planning (point_of c.phase)
phase_after c (Planned offered waits repeatable) = Preparing (point_of c.phase) offered waits
phase_after c Stuck = Telling
phase_after c Told = told_from c.phase
phase_after c Started = AtGate (point_of c.phase) (is_offered c.phase)
phase_after c LetPass = Moving (point_of c.phase) (is_offered c.phase)
phase_after c Sent = Answer
phase_after c Withdrawn = Withdrawing
phase_after c (Answered keeps lasts) = if keeps && not c.closes then Idle else Closing
phase_after c (Failed why) = phase_when_failed c why
phase_after c Refused = Closing
phase_after c UserClosed = Gone
phase_after c UserLost = Gone
phase_after c Dropped = Gone
phase_after c Late = phase_when_late c
phase_after c Stop = phase_when_stopping c
phase_after c Tried = Gone
phase_after c _ = c.phase

-- All of it.

abbrev pub after : CourseState → Event → CourseState
after c event = record {
  phase = phase_after c event;
  connection = connection_after c.connection event;
  stake = stake_after c.stake event;
  origin = origin_after c.origin event;
  kept = kept_after c.kept event;
  lasts = lasts_after c.lasts event;
  asked = asked_after c.asked event;
  repeatable = repeatable_after c.repeatable event;
  withdrawn = withdrawn_after c.withdrawn event;
  heard = heard_after c.heard event;
  told = told_after c.told event;
  half_told = half_told_after c.half_told event;
  begun = begun_after c.begun event;
  closes = closes_after c.draining c.closes event;
  draining = draining_after c.draining event;
  stopping = stopping_after c.stopping event;
}

-- before the first event
abbrev pub start : CourseState
start = record {
  phase = Head;
  connection = Absent;
  stake = false;
  origin = false;
  kept = false;
  lasts = false;
  asked = false;
  repeatable = false;
  withdrawn = false;
  heard = false;
  told = false;
  half_told = false;
  begun = false;
  closes = false;
  draining = false;
  stopping = false;
}
