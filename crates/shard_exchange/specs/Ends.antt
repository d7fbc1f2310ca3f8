-- How the course of an exchange leaves a message, and what its user is owed then.
use Rattle.std.specs.Prelude.{◌≡◌, ◌↔◌, ℕ, Bool, true, false, not, ◌&&◌, ◌||◌, if◌then◌else◌, ⊤, Option, None, Some}
use Rattle.exchange_core.specs.declared.event.Event.{Event}
use Rattle.exchange_core.specs.declared.event.Event.TheVariants.{Sent, Begun, Served, Withdrawn, Answered, UserLost, Stop, Failed}
use Rattle.exchange_core.specs.declared.phase.Phase.{Phase}
use Rattle.exchange_core.specs.declared.phase.Phase.TheVariants.{Idle, Head, Refusing, Closing, Gone}
use Rattle.exchange_core.specs.declared.state.CourseState.{CourseState}
use Rattle.exchange_core.specs.declared.connection.Connection.{Connection}
use Rattle.exchange_core.specs.declared.connection.Connection.TheVariants.{Absent, Ready, InUse, Spent}
use Rattle.exchange_core.specs.declared.event.RefusalCause.{RefusalCause}
use Rattle.exchange_core.specs.declared.event.RefusalCause.TheVariants.{Scarce}
use Rattle.exchange_core.specs.Course.{after, is_leased, is_mid_text}
use Rattle.exchange_core.specs.May.{may_come, is_at_gate, is_moving, is_refusing, is_gone, is_idle, is_answer, is_withdrawing}
use Rattle.exchange_core.specs.Dues.{status_of}
use Rattle.shard_exchange.specs.declared.ends.End.{End}
use Rattle.shard_exchange.specs.declared.ends.End.TheVariants as ends
use Rattle.shard_exchange.specs.EndedBy.{served_as}
use Rattle.shard_exchange.specs.declared.ends.EndedBy.{EndedBy}
use Rattle.shard_exchange.specs.declared.ends.EndedBy.TheVariants as ended

-- its transaction stands
abbrev pub moves : CourseState → Bool
moves c = is_at_gate c.phase || is_moving c.phase

-- with it a message is over
abbrev pub ends_message : Event → Bool
ends_message Sent = true
ends_message Withdrawn = true
ends_message (Answered keeps lasts) = true
ends_message (Failed why) = true
ends_message UserLost = true
ends_message Stop = true
ends_message _ = false

-- what is held is the same
abbrev pub Holds : CourseState → CourseState → Type 0
Holds old new = (is_leased new.connection ≡ is_leased old.connection) × (new.stake ≡ old.stake) × (new.origin ≡ old.origin)

-- A connection on which a request is under way stays so, or the service has said all on it: then it is ready for others exactly where it
-- may serve again. Any other one stays what it was.
abbrev pub IsServedBy : (usable : Bool) → (old new : Connection) → Type 0
IsServedBy usable (InUse reused) (InUse again) = ⊤
IsServedBy usable (InUse reused) (Ready again) = usable ≡ true
IsServedBy usable (InUse reused) Spent = usable ≡ false
IsServedBy usable (InUse reused) Absent = ⊥
IsServedBy usable old new = new ≡ old

-- what it is once that was told, where the service has said all
abbrev pub IsToldServed : (served : Option Bool) → (old new : Connection) → Type 0
IsToldServed None old new = new ≡ old
IsToldServed (Some usable) old new = IsServedBy usable old new

-- the message goes on
abbrev pub Stays : CourseState → CourseState → Type 0
Stays old new = Holds old new × (new.phase ≡ old.phase) × (new.stopping ≡ old.stopping)

-- the message is over
abbrev pub Leaves : CourseState → CourseState → Type 0
Leaves old new = Holds old new × (moves new ≡ false)

-- with that end the origin's connection lasts
abbrev pub keeps_origin : End → Bool
keeps_origin (ends.Answered keeps lasts) = lasts
keeps_origin _ = false

-- the status of the refusal that goes to the user, or 0
abbrev pub refusal_at : Phase → ℕ
refusal_at (Refusing why) = status_of why
refusal_at _ = 0

-- a refusal of this status follows, unless a part of another text is out
abbrev pub IsOwed : (old new : CourseState) → (status : ℕ) → Type 0
IsOwed old new status = is_mid_text old ≡ false → (is_refusing new.phase ≡ true) × (refusal_at new.phase ≡ status)

-- what the user of a message is owed that this ended, where no byte of an answer went to it
abbrev pub IsOwedBy : EndedBy → (old new : CourseState) → Type 0
IsOwedBy ended.Deadline old new = IsOwed old new 504
IsOwedBy ended.Stop old new = IsOwed old new 503
IsOwedBy _ old new = ⊤

-- the course knows of a byte of an answer where one is out
abbrev pub begun_with : (answered : Bool) → CourseState → CourseState
begun_with answered c = if answered && may_come c Begun then after c Begun else c

-- and of the service's connection, where it is told of it
abbrev pub served_with : Option Bool → CourseState → CourseState
served_with None c = c
served_with (Some usable) c = if may_come c (Served usable) then after c (Served usable) else c

-- A good end is told as just that, where the course may go there: the response is waited for, unless memory was wanting for it; or the user
-- has the whole answer, and its connection and the origin's one go on or not, as that end says.
abbrev pub IsTold : (old new : CourseState) → End → Type 0
IsTold old new (ends.Sent has_memory) = may_come old Sent ≡ true
    → new ≡ (if has_memory then after old Sent else after (after old Sent) (Failed Scarce))
IsTold old new (ends.Answered keeps lasts) = may_come old (Answered keeps lasts) ≡ true → new ≡ after old (Answered keeps lasts)
IsTold old new _ = ⊤

-- so it is once the course knows of the answer, where one is out, and of the service's connection
abbrev pub Succeeds : (answered : Bool) → (served : Option Bool) → (old new : CourseState) → End → Type 0
Succeeds answered served old new end = (answered ≡ true → (begun_with answered old).begun ≡ true)
    → IsTold (served_with served (begun_with answered old)) new end

-- A message is over, to whose user a byte of an answer went or not, with one of these ends, and what is held follows from it. A user that
-- got such a byte isn't refused; another one is, where the message failed, with the status of just that cause. The service's connection is
-- ready for others exactly where its exchange was whole. A further request is read only after an answer that keeps the connection, and a
-- response is waited for only where its request was sent; and each of them is, where the course may go there. The origin's connection lasts
-- only where that end says so. A request goes back to its plan exactly where it was withdrawn, and there was memory for it; without that it
-- failed as its origin did.
pub record IsEnded (may follows : End → Type 0) (answered reusable : Bool) (old new : CourseState) : Type 0 where
  pub end : End
  pub is_so : may end
  pub next : follows end
  pub over : moves new ≡ false
  pub served : IsServedBy reusable old.connection new.connection
  pub alone : answered ≡ true → is_refusing new.phase ≡ false
  pub owed : (why : RefusalCause) → end ≡ ends.Failed why → answered ≡ false → IsOwed old new (status_of why)
  pub lost : end ≡ ends.Lost → is_gone new.phase ≡ true
  pub keeps : is_idle new.phase ≡ true → end ≡ ends.Answered true new.lasts
  pub lasts : new.lasts ≡ true → (old.lasts || keeps_origin end) ≡ true
  pub succeeds : Succeeds answered (served_as reusable end) old new end
  pub awaits : is_answer new.phase ≡ true → end ≡ ends.Sent true
  pub withdrawn : is_withdrawing new.phase ≡ true ↔ end ≡ ends.Withdrawn true
  pub wanting : end ≡ ends.Withdrawn false → answered ≡ false → IsOwed old new 502

-- nothing is due for the user any more, but for a refusal
abbrev pub is_stopped : CourseState → Bool
is_stopped c = c.stopping || is_gone c.phase

-- The status of the refusal that goes out once the proxy stops, or 0: one that goes out stays, and a user of whose request a part came
-- is refused with 503. begun: a byte of the head came that is read.
abbrev pub owed_at_stop : Phase → (begun : Bool) → ℕ
owed_at_stop (Refusing why) begun = status_of why
owed_at_stop Idle begun = if begun then 503 else 0
owed_at_stop Head begun = if begun then 503 else 0
owed_at_stop Closing begun = 0
owed_at_stop Gone begun = 0
owed_at_stop _ begun = 503

-- a byte of an answer that is out is one that the course may be told of: no transaction stands, or its answer may begin
abbrev pub hears_of_answers : CourseState → Bool
hears_of_answers c = not (moves c) || may_come c Begun

-- Nothing is due for the user any more but the refusal that it is owed, and that follows, unless a part of another text is out.
abbrev pub Halts : (old new : CourseState) → (begun : Bool) → Type 0
Halts old new begun = (is_stopped new ≡ true)
    × (is_mid_text new ≡ false → hears_of_answers old ≡ true → refusal_at new.phase ≡ owed_at_stop old.phase begun)

-- what is held goes back, and the user sees nothing of that
abbrev pub Frees : (old new : CourseState) → Type 0
Frees old new = (new.phase ≡ old.phase) × (is_mid_text new ≡ is_mid_text old) × (new.stopping ≡ old.stopping)

-- nothing is left to do but to close the user's connection
abbrev pub is_closing : Phase → Bool
is_closing Closing = true
is_closing _ = false
