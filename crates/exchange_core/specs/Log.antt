-- A log is the list of the events that happened to a user's connection, the newest first.
use Rattle.std.specs.Prelude.{◌≡◌, ◌⊎◌, ℕ, ◌+◌, Bool, true, false, not, ◌&&◌, ◌||◌, ⊤, List, [], ◌∷◌, if◌then◌else◌}
use Rattle.exchange_core.specs.declared.event.Event.{Event}
use Rattle.exchange_core.specs.declared.event.Event.TheVariants.{RequestRead, ResponseRead, Stale, Lent, Asked, Learned, Planned, Reserved}
use Rattle.exchange_core.specs.declared.event.Event.TheVariants.{HalfTold, Told, Dialed, LetPass, Served, Begun, Sent, Heard, Withdrawn}
use Rattle.exchange_core.specs.declared.event.Event.TheVariants.{Answered, Failed, Returned, Released, HungUp, Refused, UserClosed}
use Rattle.exchange_core.specs.declared.event.Event.TheVariants.{UserLost, Dropped, Late, Drain, Stop, Tried}
use Rattle.exchange_core.specs.declared.event.RefusalCause.{RefusalCause}
use Rattle.exchange_core.specs.declared.phase.Phase.{Phase}
use Rattle.exchange_core.specs.declared.phase.Phase.TheVariants.{Refusing, Closing, Gone}
use Rattle.exchange_core.specs.declared.state.CourseState.{CourseState}
use Rattle.exchange_core.specs.Course.{start, after, is_leased, closes_after}
use Rattle.exchange_core.specs.May.{may_come}

-- where a log leads
abbrev pub course_of : List Event → CourseState
course_of [] = start
course_of (event ∷ before) = after (course_of before) event

-- each event may come after those before it
abbrev pub IsLegal : List Event → Type 0
IsLegal [] = ⊤
IsLegal (event ∷ before) = (may_come (course_of before) event ≡ true) × IsLegal before

-- some legal log leads there
abbrev pub IsReached : CourseState → Type 0
IsReached c = (events : List Event) × IsLegal events × (course_of events ≡ c)

-- where a list of events leads from a course
abbrev pub led_from : CourseState → List Event → CourseState
led_from c [] = c
led_from c (event ∷ before) = after (led_from c before) event

-- each event of a list may come after those before it, from that course on
abbrev pub MayFollow : CourseState → List Event → Type 0
MayFollow c [] = ⊤
MayFollow c (event ∷ before) = (may_come (led_from c before) event ≡ true) × MayFollow c before

-- some list of events, each of which may come, leads from the one course to the other
abbrev pub Goes : CourseState → CourseState → Type 0
Goes old new = (events : List Event) × MayFollow old events × (led_from old events ≡ new)

-- Single events.

abbrev pub one_if : Bool → ℕ
one_if true = 1
one_if false = 0

abbrev pub is_lent : Event → Bool
is_lent (Lent reused) = true
is_lent _ = false

abbrev pub is_returned : Event → Bool
is_returned (Returned kept) = true
is_returned _ = false

abbrev pub is_reserved : Event → Bool
is_reserved Reserved = true
is_reserved _ = false

abbrev pub is_released : Event → Bool
is_released Released = true
is_released _ = false

abbrev pub is_dialed : Event → Bool
is_dialed (Dialed kept) = true
is_dialed _ = false

abbrev pub is_hung_up : Event → Bool
is_hung_up (HungUp kept) = true
is_hung_up _ = false

-- the origin was dialed over a kept connection
abbrev pub is_kept_dialed : Event → Bool
is_kept_dialed (Dialed kept) = kept
is_kept_dialed _ = false

abbrev pub is_planned : Event → Bool
is_planned (Planned offered waits repeatable) = true
is_planned _ = false

-- as a message that may be sent again
abbrev pub is_repeatable : Event → Bool
is_repeatable (Planned offered waits repeatable) = repeatable
is_repeatable _ = false

abbrev pub is_withdrawn : Event → Bool
is_withdrawn Withdrawn = true
is_withdrawn _ = false

-- a whole answer, after which the origin's connection lasts
abbrev pub is_lasting : Event → Bool
is_lasting (Answered keeps lasts) = lasts
is_lasting _ = false

abbrev pub is_request_read : Event → Bool
is_request_read RequestRead = true
is_request_read _ = false

abbrev pub is_answered : Event → Bool
is_answered (Answered keeps lasts) = true
is_answered _ = false

abbrev pub is_message_read : Event → Bool
is_message_read RequestRead = true
is_message_read ResponseRead = true
is_message_read _ = false

-- a message begins, or a withdrawn request begins anew
abbrev pub is_beginning : Event → Bool
is_beginning event = is_withdrawn event || is_message_read event

-- the message is planned, or its service is to be asked first
abbrev pub is_planned_or_stale : Event → Bool
is_planned_or_stale Stale = true
is_planned_or_stale event = is_planned event

-- a byte of the origin's answer was read, alone or with its head
abbrev pub is_hearing : Event → Bool
is_hearing Heard = true
is_hearing ResponseRead = true
is_hearing _ = false

abbrev pub is_asked : Event → Bool
is_asked Asked = true
is_asked _ = false

abbrev pub is_learned : Event → Bool
is_learned (Learned usable) = true
is_learned _ = false

abbrev pub is_sent : Event → Bool
is_sent Sent = true
is_sent _ = false

abbrev pub is_served : Event → Bool
is_served (Served usable) = true
is_served _ = false

abbrev pub is_let_pass : Event → Bool
is_let_pass LetPass = true
is_let_pass _ = false

abbrev pub is_begun : Event → Bool
is_begun Begun = true
is_begun _ = false

abbrev pub is_stop : Event → Bool
is_stop Stop = true
is_stop _ = false

abbrev pub is_told : Event → Bool
is_told Told = true
is_told _ = false

abbrev pub is_half_told : Event → Bool
is_half_told HalfTold = true
is_half_told _ = false

abbrev pub is_drain : Event → Bool
is_drain Drain = true
is_drain _ = false

-- of what nothing ends
abbrev pub never : Event → Bool
never event = false

-- a deadline passed, or the message goes no further
abbrev pub is_failing : Event → Bool
is_failing Late = true
is_failing (Failed why) = true
is_failing _ = false

-- what was held went back
abbrev pub is_freeing : Event → Bool
is_freeing event = is_returned event || (is_released event || is_hung_up event)

-- nothing moved: a deadline passed, the message failed, or what was held went back
abbrev pub is_quiet : Event → Bool
is_quiet event = is_failing event || is_freeing event

abbrev pub is_tried : Event → Bool
is_tried Tried = true
is_tried _ = false

-- all that may come once the proxy stops
abbrev pub is_last : Event → Bool
is_last event = is_tried event || is_freeing event

-- how many events of a list pass the test
abbrev pub count : (Event → Bool) → List Event → ℕ
count test [] = 0
count test (event ∷ events) = one_if (test event) + count test events

-- each event of a list passes the test
abbrev pub AllAre : (Event → Bool) → List Event → Type 0
AllAre test [] = ⊤
AllAre test (event ∷ events) = (test event ≡ true) × AllAre test events

-- What a log shows.

-- whether the service's connection may serve again
abbrev pub usable_after : Bool → Event → Bool
usable_after usable (Lent reused) = true
usable_after usable (Learned again) = again
usable_after usable (Served again) = again
usable_after usable _ = usable

-- an event that begins it stands in the log, and none that ends it stands after the newest of those
abbrev pub stands : (begins ends : Event → Bool) → List Event → Bool
stands begins ends [] = false
stands begins ends (event ∷ before) = begins event || (not (ends event) && stands begins ends before)

-- the newest request has no whole answer yet
abbrev pub is_pending : List Event → Bool
is_pending events = stands is_request_read is_answered events

-- the origin has the whole of the newest request
abbrev pub has_request : List Event → Bool
has_request events = stands is_sent (λ event. is_request_read event || is_withdrawn event) events

-- the origin's connection lasts: its answer was read whole, and it is still open
abbrev pub is_kept_on : List Event → Bool
is_kept_on events = stands is_lasting (λ event. is_answered event || is_hung_up event) events

-- the service has said all of the newest message that passed the gate
abbrev pub has_served : List Event → Bool
has_served events = stands is_served is_let_pass events

-- a byte of an answer that isn't whole yet went to the user
abbrev pub has_begun : List Event → Bool
has_begun events = stands is_begun (λ event. is_request_read event || is_answered event) events

-- a part of the text that tells a user went out, and not all
abbrev pub is_half_out : List Event → Bool
is_half_out events = stands is_half_told (λ event. is_request_read event || is_told event) events

-- the transaction of the answer that goes out started while the proxy drained
abbrev pub is_last_answer : List Event → Bool
is_last_answer [] = false
is_last_answer (event ∷ before) = closes_after (stands is_drain never before) (is_last_answer before) event

-- what the newest answer of the service said of the connection that was leased last
abbrev pub is_usable : List Event → Bool
is_usable [] = true
is_usable (event ∷ before) = usable_after (is_usable before) event

abbrev pub is_keeping : Event → Bool
is_keeping (Answered keeps lasts) = keeps
is_keeping _ = false

-- no whole answer went out yet, or the newest one keeps the connection
abbrev pub is_kept_open : List Event → Bool
is_kept_open [] = true
is_kept_open (event ∷ before) = if is_answered event then is_keeping event else is_kept_open before

-- The end of a connection.

-- no further request is read
abbrev pub is_leaving : Phase → Bool
is_leaving (Refusing why) = true
is_leaving Closing = true
is_leaving Gone = true
is_leaving _ = false

-- all is said, also the refusal
abbrev pub is_silent : Phase → Bool
is_silent Closing = true
is_silent Gone = true
is_silent _ = false

-- how many deadlines and failures may come there before the user's connection is over
abbrev pub failures_from : Phase → ℕ
failures_from (Refusing why) = 1
failures_from Closing = 1
failures_from Gone = 0
failures_from _ = 2

-- how much is held
abbrev pub held_by : CourseState → ℕ
held_by c = one_if (is_leased c.connection) + (one_if c.stake + one_if c.origin)

-- a message moves
abbrev pub is_move : Event → Bool
is_move (Served usable) = true
is_move Begun = true
is_move Sent = true
is_move (Answered keeps lasts) = true
is_move _ = false

-- a message is out whole
abbrev pub is_out : Event → Bool
is_out Sent = true
is_out (Answered keeps lasts) = true
is_out _ = false

abbrev pub is_response_read : Event → Bool
is_response_read ResponseRead = true
is_response_read _ = false

abbrev pub is_refused : Event → Bool
is_refused Refused = true
is_refused _ = false

-- all that may come once a connection serves no further request
abbrev pub is_parting : Event → Bool
is_parting Refused = true
is_parting UserClosed = true
is_parting UserLost = true
is_parting Dropped = true
is_parting Drain = true
is_parting Late = true
is_parting Stop = true
is_parting Tried = true
is_parting (Returned kept) = true
is_parting Released = true
is_parting (HungUp kept) = true
is_parting _ = false

-- the same refusal goes on, or all is said
abbrev pub KeepsTo : RefusalCause → Phase → Type 0
KeepsTo why phase = (phase ≡ Refusing why) ⊎ (is_silent phase ≡ true)

-- Several connections, a log of each.

abbrev pub AreLegal : List (List Event) → Type 0
AreLegal [] = ⊤
AreLegal (log ∷ logs) = IsLegal log × AreLegal logs

abbrev pub total : (Event → Bool) → List (List Event) → ℕ
total test [] = 0
total test (log ∷ logs) = count test log + total test logs

-- the leases and the reservations that they hold
abbrev pub leases_held : List (List Event) → ℕ
leases_held [] = 0
leases_held (log ∷ logs) = one_if (is_leased (course_of log).connection) + leases_held logs

abbrev pub stakes_held : List (List Event) → ℕ
stakes_held [] = 0
stakes_held (log ∷ logs) = one_if (course_of log).stake + stakes_held logs
