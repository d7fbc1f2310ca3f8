-- What each thing that is due comes to.
use Rattle.std.specs.Prelude.{◌≡◌, ◌⊎◌, ℕ, List, Bool, true, false, ⊤, not, ◌&&◌, ◌||◌, if◌then◌else◌, Option, Some, None, Result, Ok, Err}
use Rattle.trace_core.specs.declared.history.Point.{Point}
use Rattle.exchange_core.specs.declared.state.CourseState.{CourseState}
use Rattle.exchange_core.specs.declared.event.RefusalCause.{RefusalCause}
use Rattle.exchange_core.specs.declared.dialing.Dialing.{Dialing}
use Rattle.exchange_core.specs.declared.due.Due.{Due}
use Rattle.exchange_core.specs.declared.due.Due.TheVariants.{ReadRequest, Plan, Lend, Await, Ask, Hear, Reserve, TryTell, Tell, Dial, Start}
use Rattle.exchange_core.specs.declared.due.Due.TheVariants.{AskGate, Turn, ReadResponse, GiveBack, Release, HangUp, Linger, Refuse}
use Rattle.exchange_core.specs.declared.due.Due.TheVariants.{TryRefusal}
use Rattle.exchange_core.specs.declared.event.Event.TheVariants.{HeadBegun, RequestRead, ResponseRead, Planned, Stale, Queued, Lent}
use Rattle.exchange_core.specs.declared.event.Event.TheVariants.{Asked, Learned, Reserved, HalfTold, Told, LetPass, Renewed}
use Rattle.exchange_core.specs.declared.event.Event.TheVariants.{Heard, Withdrawn, Failed, Refused, Dialed, Started}
use Rattle.exchange_core.specs.declared.event.Event.TheVariants.{UserClosed, UserLost, Dropped, Late, Returned, Released, HungUp}
use Rattle.exchange_core.specs.declared.event.RefusalCause.TheVariants.{Scarce, Deadline}
use Rattle.exchange_core.specs.declared.phase.Phase.{Phase}
use Rattle.exchange_core.specs.declared.phase.Phase.TheVariants.{InQueue}
use Rattle.exchange_core.specs.Course.{after, point_of, is_leased, is_offered, is_ready}
use Rattle.exchange_core.specs.May.{dialing_of, may_come, may_keep_origin, may_take_kept, is_request, is_idle, is_in_queue, is_withdrawing}
use Rattle.exchange_core.specs.May.{is_refusing, is_gone}
use Rattle.exchange_core.specs.Dues.{fails_of}
use Rattle.adapt_sides.specs.declared.fault.RelayFault.{RelayFault}
use Rattle.http_side.specs.declared.fault.HttpFault.{HttpFault}
use Rattle.icap_head.specs.Heads.{Response}
use Rattle.service_pool.specs.declared.connector.LendFault.{LendFault}
use Rattle.service_pool.specs.declared.connector.LendFault.TheVariants.{Busy}
use Rattle.wire_kit.specs.Past.{Past}
use Rattle.exchange_report.specs.Reasons.{cause_of}
use Rattle.exchange_report.specs.declared.reason.Reason.{Reason}
use Rattle.shard_exchange.specs.declared.answers.HeadTurn.{HeadTurn}
use Rattle.shard_exchange.specs.declared.answers.HeadTurn.TheVariants as head_turns
use Rattle.shard_exchange.specs.declared.answers.Lingered.{Lingered}
use Rattle.shard_exchange.specs.declared.answers.Lingered.TheVariants as lingering
use Rattle.shard_exchange.specs.declared.answers.Marks.{Marks}
use Rattle.shard_exchange.specs.declared.answers.Round.{Round}
use Rattle.adapt_sides.specs.declared.saying.Said.{Said}
use Rattle.adapt_sides.specs.declared.saying.Said.TheVariants.{Whole, Part, Nothing, Broken}
use Rattle.shard_exchange.specs.declared.answers.Unplanned.{Unplanned}
use Rattle.shard_exchange.specs.declared.answers.Unplanned.TheVariants as unplanned
use Rattle.shard_exchange.specs.declared.answers.Withdrawal.{Withdrawal}
use Rattle.shard_exchange.specs.declared.answers.Withdrawal.TheVariants.{Again}
use Rattle.shard_exchange.specs.Hand.{Hand}
use Rattle.shard_exchange.specs.Reasons.{is_end_of_wire, lend_reason, origin_head_reason, unplanned_reason, user_head_reason}
use Rattle.shard_exchange.specs.declared.answers.Round.TheVariants as rounds
use Rattle.shard_exchange.specs.declared.ends.End.{End}
use Rattle.shard_exchange.specs.declared.ends.EndedBy.TheVariants as ended
use Rattle.shard_exchange.specs.EndedBy.{MayEnd}
use Rattle.shard_exchange.specs.Ends.{moves, begun_with, served_with, IsEnded, IsServedBy}
use Rattle.shard_exchange.specs.Saying.{LaysPage, SaysOn, interim_text, refusal_by}

-- the message fails of what may fail where this is due
abbrev pub FailsAt : Due → (old new : CourseState) → Type 0
FailsAt due old new = (why : RefusalCause) × (fails_of due why ≡ true) × (new ≡ after old (Failed why))

-- What a message's plan leads to: a user that was told to send its body isn't told again, nor one whose response comes; and a service is
-- asked for its options once.
abbrev pub Leads : (old new : CourseState) → Result Marks Unplanned → Type 0
Leads old new (Ok marks) =
    new ≡ after old (Planned marks.offered (marks.waits && (is_request (point_of old.phase) && not old.told)) marks.repeatable)
Leads old new (Err unplanned.Stale) = new ≡ (if old.asked then after old (Failed (cause_of (unplanned_reason unplanned.Stale))) else after
    old Stale)
Leads old new (Err (unplanned.Refused reason)) = new ≡ after old (Failed (cause_of reason))

-- A message is planned: as one whose service was asked for it exactly where the course says so.
pub record IsPlanned (plans : Bool → Result Marks Unplanned → Type 0) (old new : CourseState) : Type 0 where
  pub answer : Result Marks Unplanned
  pub plan : plans old.asked answer
  pub leads : Leads old new answer

-- where a refusal leads of which so much was said: on to the end once all of it is out; and, where its user takes nothing now, to this
abbrev pub SaidLeads : (stays : CourseState) → (old new : CourseState) → Said → Type 0
SaidLeads stays old new Whole = new ≡ after old Refused
SaidLeads stays old new (Part out) = new ≡ old
SaidLeads stays old new Nothing = new ≡ stays
SaidLeads stays old new Broken = is_gone new.phase ≡ true

-- Where the last refusal leads of which so much was said, of a user whose exchange was stopped: it stays due, and what is held stays so; or
-- the user is gone.
abbrev pub LastLeads : {H : Type 0} → (held holds : H) → (old new : CourseState) → Said → Type 0
LastLeads held holds old new (Part out) = (new ≡ old) × (holds ≡ held)
LastLeads held holds old new Nothing = (new ≡ old) × (holds ≡ held)
LastLeads held holds old new _ = is_gone new.phase ≡ true

-- The user of an exchange that was stopped gets what is left of the refusal of this status, once.
pub record SaysLast {H : Type 0} (user : H → Past → Type 0) (hand : H → Hand) (pages : List ℕ → Type 0) (held holds : H) (status : ℕ)
    (old new : CourseState) : Type 0 where
  pub later : H
  pub said : Said
  pub laid : LaysPage pages status (hand held).refused (hand later).refused.page
  pub text : SaysOn (user held) (user later) (refusal_by status (hand later).refused.page) (hand held).refused.out
      (hand later).refused.out said
  pub leads : LastLeads later holds old new said

-- A user gets what is left of the refusal of this status: the plain one, or the one with a page that was laid.
pub record SaysRefusal (user later : Past → Type 0) (held holds : Hand) (status : ℕ) (stays old new : CourseState) : Type 0 where
  pub said : Said
  pub text : SaysOn user later (refusal_by status holds.refused.page) held.refused.out holds.refused.out said
  pub leads : SaidLeads stays old new said

-- where the text leads of which so much was said that tells the user to send its body; and, where it takes nothing now, to this
abbrev pub TellLeads : (stays : CourseState) → (old new : CourseState) → Said → Type 0
TellLeads stays old new Whole = new ≡ after old Told
TellLeads stays old new (Part out) = new ≡ (if old.half_told then old else after old HalfTold)
TellLeads stays old new Nothing = new ≡ stays
TellLeads stays old new Broken = is_gone new.phase ≡ true

-- A user gets what is left of that text, and the course knows how much of it is out.
pub record SaysInterim (user later : Past → Type 0) (held holds : Hand) (stays old new : CourseState) : Type 0 where
  pub said : Said
  pub text : SaysOn user later interim_text held.told holds.told said
  pub leads : TellLeads stays old new said

-- a refusal that is due goes on where it stands: with the page that was laid
pub record Refuses (pages : List ℕ → Type 0) (user later : Past → Type 0) (held holds : Hand) (status : ℕ) (stays old new : CourseState)
    : Type 0 where
  pub lays : LaysPage pages status held.refused holds.refused.page
  pub says : SaysRefusal user later held holds status stays old new

-- what a message may need is reserved; or that is wanting, and the message fails of just that
abbrev pub IsReserved : (reserves : Type 0) → (old new : CourseState) → Type 0
IsReserved reserves old new = (reserves × (new ≡ after old Reserved)) ⊎ (new ≡ after old (Failed Scarce))

-- no connection was leased for this fault: the message goes on as where others go first, or it fails of just that
abbrev pub UnlentLeads : (busy : Type 0) → LendFault → (old new : CourseState) → Type 0
UnlentLeads busy Busy old new = busy
UnlentLeads busy fault old new = new ≡ after old (Failed (cause_of (lend_reason fault)))

-- A connection is leased of the service of the message's own point, and is known as one that was idle before, or as a fresh one.
-- Or none is,
-- and that leads so.
abbrev pub IsLentOr : {O : Type 0} → (leases : Point → (reused : Bool) → Type 0) → (fails : O → LendFault → Type 0) → (busy : O → Type 0)
    → (old new : CourseState) → Type 0
IsLentOr {O} leases fails busy old new = ((reused : Bool) × leases (point_of old.phase) reused × (new ≡ after old (Lent reused)))
    ⊎ ((later : O) × (fault : LendFault) × fails later fault × UnlentLeads (busy later) fault old new)

-- the message waits in the queue, or fails of that want, where the course doesn't let it wait, or there was no room in the queue
abbrev pub IsQueued : (joins : Bool → Type 0) → (old new : CourseState) → Type 0
IsQueued joins old new = (joins true × (new ≡ after old Queued)) ⊎ ((may_come old Queued ≡ true → joins false)
    × (new ≡ after old (Failed Scarce)))

-- a connection is leased, or the message waits for one where others go first
abbrev pub IsLent : {O : Type 0} → (leases : Point → (reused : Bool) → Type 0) → (fails : O → LendFault → Type 0)
    → (joins : O → Point → Bool → Type 0) → (old new : CourseState) → Type 0
IsLent {O} leases fails joins old new = IsLentOr leases fails (λ _. IsQueued
    (λ joined. (later : O) × joins later (point_of old.phase) joined) old new) old new

-- it waits on in the queue, unless it has waited as long as it may, or the deadline has passed
abbrev pub WaitsOn : (waited : Bool → Type 0) → (late : Bool) → (old new : CourseState) → Type 0
WaitsOn waited late old new = (long : Bool) × waited long × (new ≡ (if long then after old (Failed Scarce) else
    (if late then after old (Failed Deadline) else old)))

-- a message that waits in its queue no more, and has no connection, has left it
abbrev pub LeavesQueue : {O : Type 0} → (leaves : O → Point → Type 0) → (old new : CourseState) → Type 0
LeavesQueue {O} leaves old new = (point : Point) → old.phase ≡ InQueue point → is_in_queue new.phase ≡ false
    → is_leased new.connection ≡ false → (later : O) × leaves later point

-- the reservation is closed
abbrev pub IsReleased : (old new : CourseState) → Type 0
IsReleased old new = new ≡ after old Released

-- a connection is leased once it is the message's turn
abbrev pub IsAwaited : {O : Type 0} → (leases : Point → (reused : Bool) → Type 0) → (fails : O → LendFault → Type 0)
    → (waited : O → Bool → Type 0) → (late : O → Bool) → (old new : CourseState) → Type 0
IsAwaited {O} leases fails waited late old new = IsLentOr leases fails (λ later. WaitsOn (waited later) (late later) old new) old new

-- the service of the message's own point is asked for its options, or the message fails of that
abbrev pub IsAsked : (asks : Point → Type 0) → (old new : CourseState) → Type 0
IsAsked asks old new = (asks (point_of old.phase) × (new ≡ after old Asked)) ⊎ FailsAt Ask old new

-- An origin's connection that is dialed leads where the message's plan says, and is known as the kept or the fresh one that it is: a kept
-- one only where the request may be sent again, and wasn't withdrawn. Or the message fails of that.
abbrev pub IsDialed : (dials : Dialing → Bool → Type 0) → (old new : CourseState) → Type 0
IsDialed dials old new = ((kept : Bool) × dials (dialing_of old) kept × (kept ≡ true → may_take_kept old ≡ true)
    × (new ≡ after old (Dialed kept))) ⊎ FailsAt Dial old new

-- A message begins to move with what is there. Or it can't begin, or no memory is found for it: then the user's connection is held as
-- before; or it has no user.
abbrev pub IsStarted : (starts keeps : Type 0) → (user : Past → Type 0) → (old new : CourseState) → Type 0
IsStarted starts keeps user old new = (starts × (new ≡ after old Started)) ⊎ (keeps × (new ≡ after old (Failed Scarce)))
    ⊎ (((p : Past) → user p → ⊥) × (new ≡ after old UserLost))

-- a byte of the head of a request came
abbrev pub begun_of : CourseState → CourseState
begun_of c = if is_idle c.phase then after c HeadBegun else c

-- Where it leads that nothing comes of a request's head: the user is waited for, until the deadline. It is let go where no byte of the head
-- came, the proxy drains, and the user has rested for as long as one then may.
abbrev pub SilenceLeads : (begun late rested : Bool) → (old new : CourseState) → Type 0
SilenceLeads begun late rested old new = (new ≡ (if late then after (if begun then begun_of old else old) Late else
    (if begun then begun_of old else old))) × ((not begun && (old.draining && rested)) ≡ false)
    ⊎ ((begun ≡ false) × (old.draining ≡ true) × (rested ≡ true) × (new ≡ after old Dropped))

-- where it leads that there is no head: to the refusal of this reason, or the user is gone
abbrev pub NoHeadLeads : Option Reason → (old new : CourseState) → Type 0
NoHeadLeads (Some reason) old new = new ≡ after old (Failed (cause_of reason))
NoHeadLeads None old new = new ≡ after old UserLost

-- what is held bears the message that it bore before, and its plan
abbrev pub Bears : {H : Type 0} → (bears : H → H → Type 0) → (held holds : H) → Type 0
Bears {H} bears held holds = (first : H) → bears first held → bears first holds

-- where a turn at the head of the user's request leads that brought this; head: what is at fault in it
abbrev pub RequestLeads : (begun late rested : Bool) → (head : Option HttpFault) → (old new : CourseState) → Option HeadTurn → Type 0
RequestLeads begun late rested head old new (Some head_turns.Whole) = new ≡ after (begun_of old) RequestRead
RequestLeads begun late rested head old new (Some head_turns.More) = new ≡ (if begun then begun_of old else old)
RequestLeads begun late rested head old new (Some head_turns.Interim) = new ≡ (if begun then begun_of old else old)
RequestLeads begun late rested head old new (Some head_turns.Nothing) = SilenceLeads begun late rested old new
RequestLeads begun late rested head old new (Some (head_turns.Fault fault)) =
    NoHeadLeads (user_head_reason fault head) old new
RequestLeads begun late rested head old new None = new ≡ after old UserLost

-- A turn at the head of the user's request was taken, and the course knows what it brought. With the whole head all connections stay as
-- they are, and of a further request nothing is told yet.
pub record IsRequested {H : Type 0} (reads : H → H → Option HeadTurn → Type 0) (bears_message bears : H → H → Type 0)
    (line : H → H → Type 0) (told : H → ℕ) (begun : H → Bool) (head_fault : H → Option HttpFault) (late rested : Bool) (held holds : H)
    (old new : CourseState) : Type 0 where
  pub turned : H
  pub turn : Option HeadTurn
  pub brought : reads held turned turn
  pub kept : Bears bears_message turned holds
  pub whole : turn ≡ Some head_turns.Whole → Bears bears turned holds × line turned holds
  pub fresh : turn ≡ Some head_turns.Whole → told holds ≡ 0
  pub leads : RequestLeads (begun turned) late rested (head_fault turned) old new turn

-- a byte of the origin's answer was read
abbrev pub heard_of : CourseState → CourseState
heard_of c = if c.heard then c else after c Heard

-- a request may go back to its plan: its origin's connection has ended, and the course may go there
abbrev pub may_go_back : RelayFault → CourseState → Bool
may_go_back fault c = is_end_of_wire fault && may_come c Withdrawn

-- Where the end of the origin's connection leads: back to the plan where the course may go there, and the request is the message again;
-- that is so only where its origin has said nothing. Else the message fails. asked: what came of that, as what is held answered. head: what
-- is at fault in the head.
abbrev pub FaultLeads : (repeats : Type 0) → (asked : Withdrawal → Type 0) → (head : Option HttpFault) → RelayFault
    → (old new : CourseState)
    → Type 0
FaultLeads repeats asked head fault old new =
    (may_go_back fault old ≡ true) × asked Again × repeats × (new ≡ after old Withdrawn)
    ⊎ (may_go_back fault old ≡ true → (came : Withdrawal) × (came ≡ Again → ⊥) × asked came)
    × (new ≡ after old (Failed (cause_of (origin_head_reason fault head))))

-- where a turn at the head of the origin's response leads that brought this
abbrev pub TurnLeads : (repeats : Type 0) → (asked : Withdrawal → Type 0) → (head : Option HttpFault) → (late : Bool)
    → (old new : CourseState) → Option HeadTurn → Type 0
TurnLeads repeats asked head late old new (Some head_turns.Whole) = new ≡ after old ResponseRead
TurnLeads repeats asked head late old new (Some head_turns.More) = new ≡ heard_of old
TurnLeads repeats asked head late old new (Some head_turns.Interim) =
    new ≡ (if late then after (heard_of old) (Failed Deadline) else heard_of old)
TurnLeads repeats asked head late old new (Some head_turns.Nothing) = new ≡ (if late then after old (Failed Deadline) else old)
TurnLeads repeats asked head late old new (Some (head_turns.Fault fault)) = FaultLeads repeats asked head fault old new
TurnLeads repeats asked head late old new None = new ≡ after old (Failed Scarce)

-- what is held after such a turn stays what it was, unless the request was to be the message again
abbrev pub KeepsTurned : {H : Type 0} → CourseState → Option HeadTurn → (turned holds : H) → Type 0
KeepsTurned old (Some (head_turns.Fault fault)) turned holds = may_go_back fault old ≡ false → holds ≡ turned
KeepsTurned old turn turned holds = holds ≡ turned

-- A turn at the head of the origin's response was taken, and the course knows what it brought.
pub record IsRead {H : Type 0} (hears : H → H → Option HeadTurn → Type 0) (repeats : H → Type 0) (withdraws : H → H → Withdrawal → Type 0)
    (head_fault : H → Option HttpFault) (late : Bool) (held holds : H) (old new : CourseState) : Type 0 where
  pub turned : H
  pub turn : Option HeadTurn
  pub brought : hears held turned turn
  pub kept : KeepsTurned old turn turned holds
  pub leads : TurnLeads (repeats turned) (withdraws turned holds) (head_fault turned) late old new turn

-- Where the origin's connection lasts, and the proxy neither drains nor stops, it was laid down for later exchanges, or there was no room
-- for it. Else it was closed.
abbrev pub IsHungUp : (lays : Bool → Type 0) → (closes : Type 0) → (old new : CourseState) → Type 0
IsHungUp lays closes old new = (may_keep_origin old ≡ true → (kept : Bool) × lays kept) × (may_keep_origin old ≡ false → closes)
    × (new ≡ after old (HungUp false))

-- The service's connection was put back, exactly where by the course it may serve again, and it is there; else its lease was given up. A
-- message that moves stays as it is.
abbrev pub IsGivenBack : (puts gives_up stays : Type 0) → (there : Bool) → (old new : CourseState) → Type 0
IsGivenBack puts gives_up stays there old new = ((is_ready old.connection && there) ≡ true → puts)
    × ((is_ready old.connection && there) ≡ false → gives_up) × stays × (new ≡ after old (Returned false))

-- What comes of asking the service of the message's own point: nothing yet; or its answer was read, and is kept, and its connection lies
-- where it did, and is ready for others then exactly where it may serve again after that answer; or the same service is asked anew, on a
-- fresh connection in place of one that was idle before; or the message fails of that.
abbrev pub IsHeard : {H : Type 0} → (learns : Point → Response → Type 0) → (usable : H → Response → Bool) → (keeps : H → Type 0)
    → (asks : Point → Type 0) → (renews : H → Type 0) → (old new : CourseState) → Type 0
IsHeard {H} learns usable keeps asks renews old new = (new ≡ old)
    ⊎ ((held : H) × (answer : Response) × learns (point_of old.phase) answer × keeps held
    × (new ≡ after old (Learned (usable held answer))))
    ⊎ ((held : H) × renews held × asks (point_of old.phase) × (may_come old Renewed ≡ true) × (new ≡ after old Renewed))
    ⊎ FailsAt Hear old new

-- where it leads that what the user still sends was dropped as far as this: it is over once the user has ended that, or the deadline passed
abbrev pub LingerLeads : (late : Bool) → (old new : CourseState) → Lingered → Type 0
LingerLeads late old new lingering.Over = new ≡ after old UserClosed
LingerLeads late old new came = new ≡ (if late then after old Late else old)

-- A user's connection closes: the user is told that nothing more comes; and once it was, what it still sends is dropped.
abbrev pub IsClosed : (lingers : Lingered → Type 0) → (late told tells : Bool) → (old new : CourseState) → Type 0
IsClosed lingers late told tells old new = (told ≡ false → (tells ≡ true) × (new ≡ old))
    × (told ≡ true → (came : Lingered) × lingers came × LingerLeads late old new came)

-- an answer to the user may be made of this message: it is a response, or a request that its service was offered
abbrev pub has_answer : Phase → Bool
has_answer phase = not (is_request (point_of phase)) || is_offered phase

-- where the service's connection broke in this round, the request began anew on a fresh one
abbrev pub anew_with : Round → CourseState → CourseState
anew_with rounds.Broken c = after c Renewed
anew_with _ c = c

-- with this round a message is over: its transaction is, or nothing moved though the deadline has passed
abbrev pub is_last : (late : Bool) → Round → Bool
is_last late rounds.Over = true
is_last late rounds.Waiting = late
is_last late _ = false

-- A message is over because the deadline passed, and nothing moved in the round before that.
pub record IsOverdue {O : Type 0} (late : O → Bool) (follows : End → Type 0) (answered reusable : Bool) (round : Round)
    (old new : CourseState) : Type 0 where
  pub out : O
  pub is_late : late out ≡ true
  pub still : round ≡ rounds.Waiting
  pub ended : IsEnded (MayEnd ended.Deadline (λ _. ⊤)) follows answered reusable old new

-- it is over as its transaction ended, in the round before that
pub record IsOver (ends follows : End → Type 0) (answered reusable : Bool) (round : Round) (old new : CourseState) : Type 0 where
  pub last : round ≡ rounds.Over
  pub ended : IsEnded (MayEnd ended.Itself ends) follows answered reusable old new

-- A round of turns of a message was taken. While the message moves, the course knows of a byte of an answer where one went to the user.
-- Once it is over, a user that got one isn't refused. It is over where its transaction is, as that ended, and where nothing moved and the
-- deadline has passed. The service's connection is ready for others exactly where its exchange was whole. A request that was withdrawn may
-- be sent again, and its origin has said nothing.
pub record IsTurned {H O : Type 0} (rounds : H → H → O → Round → Type 0) (frees : H → Option Bool → Type 0) (answered reusable : H → Bool)
    (ends : H → Bool → End → Type 0) (follows : H → O → End → Type 0) (repeats : H → Type 0) (late : O → Bool) (held : H)
    (old new : CourseState) : Type 0 where
  pub turned : H
  pub later : O
  pub round : Round
  pub taken : rounds held turned later round
  pub freed : moves new ≡ true → (usable : Option Bool) × frees turned usable
      × (new ≡ served_with usable (begun_with (answered turned) (anew_with round old)))
  pub begun : moves new ≡ true → new.begun ≡ (old.begun || (answered turned && has_answer old.phase))
  pub alone : answered turned ≡ true → is_refusing new.phase ≡ false
  pub served : IsServedBy (reusable turned) old.connection new.connection
  pub withdrawn : is_withdrawing new.phase ≡ true → repeats turned × (answered turned ≡ false) × (may_come old Withdrawn ≡ true)
  pub last : is_last (late later) round ≡ true → moves new ≡ false
  pub over : moves new ≡ false
      → IsOver (ends turned (may_come old Withdrawn)) (follows turned later) (answered turned) (reusable turned) round old new
      ⊎ IsOverdue late (follows turned later) (answered turned) (reusable turned) round old new

-- the gate was asked, and lets a message pass: then what is held stays as it is; or it doesn't, and the message is over
abbrev pub IsGated : {H O : Type 0} → (passes : O → Bool → Type 0) → (ends : End → Type 0) → (follows : O → End → Type 0)
    → (answered reusable : Bool) → (held holds : H) → (old new : CourseState) → Type 0
IsGated {H} {O} passes ends follows answered reusable held holds old new =
    ((later : O) × passes later true × (new ≡ after old LetPass) × (holds ≡ held))
    ⊎ ((later : O) × passes later false × IsEnded (MayEnd ended.Gate ends) (follows later) answered reusable old new)

-- A message that moves on is the one that moved before: nothing changed; it stays while its service's connection goes back; or it went
-- through a round of turns, after which its service's connection came out of it, or didn't.
abbrev pub MovesOn : {H O : Type 0} → (stays : H → H → Type 0) → (rounds : H → H → O → Round → Type 0) → (frees : H → Option Bool → Type 0)
    → (held holds : H) → Type 0
MovesOn {H} {O} stays rounds frees held holds = (holds ≡ held) ⊎ (stays held holds
    ⊎ ((turned : H) × (later : O) × (round : Round) × rounds held turned later round × ((usable : Option Bool) × frees turned usable)))

-- What a step comes to, each thing where it is due.
pub record Deeds : Type 1 where
  -- it reads the head of a request
  pub requested : Type 0
  -- it plans the message
  pub planned : Type 0
  -- it leases a connection to its service, or has the message wait for one
  pub lent : Type 0
  pub awaited : Type 0
  -- it asks the service for its options, and hears them
  pub asked : Type 0
  pub heard : Type 0
  -- it reserves what the message may need
  pub reserved : Type 0
  -- it tells the user to send its body, where it takes the text at once, or waits until it does
  pub tried : Type 0
  pub told : Type 0
  -- it dials the origin, starts the transaction, and asks the gate
  pub dialed : Type 0
  pub started : Type 0
  pub gated : Type 0
  -- it takes a round of turns
  pub turned : Type 0
  -- it reads the head of the origin's response
  pub read : Type 0
  -- it gives the service's connection back, then the reservation, and hangs up
  pub given : Type 0
  pub released : Type 0
  pub hung : Type 0
  -- it closes the user's connection
  pub closed : Type 0
  -- it says what is left of the refusal of this status, and so at a stop
  pub refused : (status : ℕ) → Type 0
  pub last : (status : ℕ) → Type 0

-- what a step does where this is due
abbrev pub Does : Deeds → Due → Type 0
Does deeds ReadRequest = deeds.requested
Does deeds Plan = deeds.planned
Does deeds Lend = deeds.lent
Does deeds Await = deeds.awaited
Does deeds Ask = deeds.asked
Does deeds Hear = deeds.heard
Does deeds Reserve = deeds.reserved
Does deeds TryTell = deeds.tried
Does deeds Tell = deeds.told
Does deeds Dial = deeds.dialed
Does deeds Start = deeds.started
Does deeds AskGate = deeds.gated
Does deeds Turn = deeds.turned
Does deeds ReadResponse = deeds.read
Does deeds GiveBack = deeds.given
Does deeds Release = deeds.released
Does deeds HangUp = deeds.hung
Does deeds Linger = deeds.closed
Does deeds (Refuse status) = deeds.refused status
Does deeds (TryRefusal status) = deeds.last status
Does deeds _ = ⊤
