-- What is due.
use Rattle.std.specs.Prelude.{ℕ, Bool, Option, Some, None, true, false, not, ◌&&◌, ◌||◌, if◌then◌else◌}
use Rattle.trace_core.specs.declared.history.Point.{Point}
use Rattle.exchange_core.specs.declared.event.RefusalCause.{RefusalCause}
use Rattle.exchange_core.specs.declared.event.RefusalCause.TheVariants as causes
use Rattle.exchange_core.specs.declared.event.Event.{Event}
use Rattle.exchange_core.specs.declared.event.Event.TheVariants as happens
use Rattle.exchange_core.specs.declared.due.Due.{Due}
use Rattle.exchange_core.specs.declared.due.Due.TheVariants.{ReadRequest, Plan, Lend, Await, Ask, Hear, Reserve, TryTell, Tell, Dial, Start}
use Rattle.exchange_core.specs.declared.due.Due.TheVariants.{AskGate, Turn, ReadResponse, GiveBack, Release, HangUp, Refuse, TryRefusal}
use Rattle.exchange_core.specs.declared.due.Due.TheVariants.{Linger, Nothing}
use Rattle.exchange_core.specs.declared.connection.Connection.{Connection}
use Rattle.exchange_core.specs.declared.connection.Connection.TheVariants.{Absent, Ready, InUse, Spent}
use Rattle.exchange_core.specs.declared.phase.Phase.{Phase}
use Rattle.exchange_core.specs.declared.phase.Phase.TheVariants.{Idle, Head, Planning, Asking, InQueue, Preparing, Telling, AtGate, Moving}
use Rattle.exchange_core.specs.declared.phase.Phase.TheVariants.{Answer, Withdrawing, Refusing, Closing, Gone}
use Rattle.exchange_core.specs.declared.state.CourseState.{CourseState}
use Rattle.exchange_core.specs.Course.{is_leased, is_ready, is_in_use, is_spent, point_of, is_offered}
use Rattle.exchange_core.specs.May.{is_request, is_idle, is_head, is_gone, is_free, holds_nothing, may_take_kept, may_keep_origin}

-- the status of a refusal (RFC 9110, section 15)
abbrev pub status_of : RefusalCause → ℕ
status_of causes.Faulty = 400
status_of causes.Unserved = 501
status_of causes.Elsewhere = 502
status_of causes.Scarce = 503
status_of causes.Deadline = 504
status_of causes.Stopping = 503

-- what is held goes back before anything else is done
abbrev pub freed_first : CourseState → Due → Due
freed_first c due =
    if is_leased c.connection then GiveBack else (if c.stake then Release else (if c.origin then HangUp else due))

-- of a message that is being gathered: a connection for the offer and none else, a reservation, the user's leave, and the origin
abbrev pub gathers : CourseState → Point → (offered waits : Bool) → Due
gathers c point offered waits =
    if offered && not (is_leased c.connection) then Lend
    else (if not offered && is_leased c.connection then GiveBack
    else (if not c.stake then Reserve
    else (if waits && not c.told then TryTell
    else (if is_request point && not c.origin then Dial
    else Start))))

-- of a question for options
abbrev pub asks : Connection → Due
asks Absent = Lend
asks (Ready reused) = Ask
asks (InUse reused) = Hear
asks Spent = GiveBack

abbrev pub due_at : Phase → CourseState → Due
due_at Idle c = freed_first c ReadRequest
due_at Head c = freed_first c ReadRequest
-- a connection that may not serve again goes back at once
due_at (Planning point) c = if is_spent c.connection then GiveBack else Plan
due_at (Asking point) c = asks c.connection
due_at (InQueue point) c = Await
due_at (Preparing point offered waits) c = gathers c point offered waits
due_at Telling c = freed_first c Tell
due_at (AtGate point offered) c = AskGate
-- a service that has said all is let go in the midst of the message
due_at (Moving point offered) c = if is_leased c.connection && not (is_in_use c.connection) then GiveBack else Turn
due_at Answer c = if is_leased c.connection then GiveBack else (if c.stake then Release else ReadResponse)
-- what a withdrawn request held goes back before it is planned anew
due_at Withdrawing c = freed_first c Plan
due_at (Refusing why) c = if c.stopping then TryRefusal (status_of why) else freed_first c (Refuse (status_of why))
due_at Closing c = freed_first c Linger
due_at Gone c = freed_first c Nothing

abbrev pub due_of : CourseState → Due
due_of c = due_at c.phase c

-- the user's connection is over, and nothing is held
abbrev pub is_over : CourseState → Bool
is_over c = is_gone c.phase && holds_nothing c

-- the event is what comes of doing it
abbrev pub comes_of : Due → Event → Bool
comes_of ReadRequest happens.HeadBegun = true
comes_of ReadRequest happens.RequestRead = true
comes_of Plan (happens.Planned offered waits repeatable) = true
comes_of Plan happens.Stale = true
comes_of Lend (happens.Lent reused) = true
comes_of Lend happens.Queued = true
comes_of Await (happens.Lent reused) = true
comes_of Ask happens.Asked = true
comes_of Hear (happens.Learned usable) = true
comes_of Reserve happens.Reserved = true
comes_of TryTell happens.Told = true
comes_of TryTell happens.HalfTold = true
comes_of TryTell happens.Stuck = true
comes_of Tell happens.Told = true
comes_of Tell happens.HalfTold = true
comes_of Dial (happens.Dialed kept) = true
comes_of Start happens.Started = true
comes_of AskGate happens.LetPass = true
comes_of Turn (happens.Served usable) = true
comes_of Turn happens.Begun = true
comes_of Turn happens.Sent = true
comes_of Turn happens.Heard = true
comes_of Turn happens.Withdrawn = true
comes_of Turn (happens.Answered keeps lasts) = true
comes_of ReadResponse happens.Heard = true
comes_of ReadResponse happens.Withdrawn = true
comes_of ReadResponse happens.ResponseRead = true
comes_of GiveBack (happens.Returned kept) = true
comes_of Release happens.Released = true
comes_of HangUp (happens.HungUp kept) = true
comes_of (Refuse status) happens.Refused = true
comes_of (TryRefusal status) happens.Tried = true
comes_of Linger happens.UserClosed = true
comes_of _ _ = false

-- of the events that may come of it, this one fits what is there
abbrev pub fits : CourseState → Event → Bool
fits c happens.HeadBegun = is_idle c.phase
fits c happens.RequestRead = is_head c.phase
fits c happens.Stale = not c.asked
fits c happens.Queued = is_free c && (not (is_request (point_of c.phase)) || not c.origin)
fits c (happens.Planned offered waits repeatable) = not waits || (is_request (point_of c.phase) && not c.told)
fits c happens.HalfTold = not c.half_told
fits c (happens.Dialed kept) = not kept || may_take_kept c
fits c (happens.Served usable) = is_in_use c.connection
fits c happens.Begun = not c.begun && (not (is_request (point_of c.phase)) || is_offered c.phase)
fits c happens.Sent = is_request (point_of c.phase) && (not c.begun && not (is_in_use c.connection))
fits c happens.Heard = is_request (point_of c.phase) && not c.heard
fits c happens.Withdrawn = is_request (point_of c.phase) && (c.kept && (not c.heard && not c.begun))
fits c (happens.Answered keeps lasts) = c.begun && (not (is_in_use c.connection) && (not lasts || not (is_request (point_of c.phase))))
fits c (happens.Returned kept) = not kept || is_ready c.connection
fits c (happens.HungUp kept) = not kept || may_keep_origin c
fits c _ = true

-- doing it may have to wait for somebody else
abbrev pub is_wait : Due → Bool
is_wait ReadRequest = true
is_wait Await = true
is_wait Hear = true
is_wait Tell = true
is_wait Turn = true
is_wait ReadResponse = true
is_wait (Refuse status) = true
is_wait Linger = true
is_wait _ = false

-- the user alone is waited for, with no transaction
abbrev pub is_wait_for_user : Due → Bool
is_wait_for_user ReadRequest = true
is_wait_for_user Tell = true
is_wait_for_user (Refuse status) = true
is_wait_for_user Linger = true
is_wait_for_user _ = false

-- it is due for a message, or for the head before it, which may go no further
abbrev pub is_for_message : Due → Bool
is_for_message ReadRequest = true
is_for_message Plan = true
is_for_message Lend = true
is_for_message Await = true
is_for_message Ask = true
is_for_message Hear = true
is_for_message Reserve = true
is_for_message TryTell = true
is_for_message Tell = true
is_for_message Dial = true
is_for_message Start = true
is_for_message AskGate = true
is_for_message Turn = true
is_for_message ReadResponse = true
is_for_message _ = false

-- it is due for a user that may be lost meanwhile
abbrev pub is_for_user : Due → Bool
is_for_user (Refuse status) = true
is_for_user Linger = true
is_for_user due = is_for_message due

-- it is due for a user that is let go once the deadline has passed
abbrev pub is_for_leave : Due → Bool
is_for_leave ReadRequest = true
is_for_leave (Refuse status) = true
is_for_leave Linger = true
is_for_leave _ = false

-- no request of the user is under way: its connection may be closed at once
abbrev pub is_between : Due → Bool
is_between ReadRequest = true
is_between Linger = true
is_between _ = false

-- the status of the refusal that is due
abbrev pub refusal_due : Due → Option ℕ
refusal_due (Refuse status) = Some status
refusal_due (TryRefusal status) = Some status
refusal_due _ = None

-- the user is to be told to send its body
abbrev pub is_for_telling : Due → Bool
is_for_telling TryTell = true
is_for_telling Tell = true
is_for_telling _ = false

-- it lies with others, or room, a connection or memory was wanting
abbrev pub lies_elsewhere : RefusalCause → Bool
lies_elsewhere causes.Elsewhere = true
lies_elsewhere causes.Scarce = true
lies_elsewhere _ = false

-- it lies with a request's head, or memory was wanting for that
abbrev pub lies_in_head : RefusalCause → Bool
lies_in_head causes.Faulty = true
lies_in_head causes.Unserved = true
lies_in_head causes.Scarce = true
lies_in_head _ = false

abbrev pub is_scarce : RefusalCause → Bool
is_scarce causes.Scarce = true
is_scarce _ = false

abbrev pub is_deadline : RefusalCause → Bool
is_deadline causes.Deadline = true
is_deadline _ = false

-- what is due fails of this cause: a reservation of a want alone, a user that takes no text of the deadline alone
abbrev pub fails_of : Due → RefusalCause → Bool
fails_of ReadRequest why = lies_in_head why
fails_of Plan why = lies_elsewhere why
fails_of Lend why = lies_elsewhere why
fails_of Await why = lies_elsewhere why || is_deadline why
fails_of Ask why = lies_elsewhere why
fails_of Hear why = lies_elsewhere why || is_deadline why
fails_of Reserve why = is_scarce why
fails_of Tell why = is_deadline why
fails_of Dial why = lies_elsewhere why
fails_of Start why = is_scarce why
fails_of ReadResponse why = lies_elsewhere why || is_deadline why
fails_of _ why = false
