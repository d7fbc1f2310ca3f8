-- Where it leads that an exchange is ended from outside, and what goes back then.
use Rattle.std.specs.Prelude.{◌≡◌, ◌⊎◌, Bool, true, false, ◌&&◌, ◌||◌, if◌then◌else◌}
use Rattle.adapt_sides.specs.declared.saying.Said.{Said}
use Rattle.adapt_sides.specs.declared.saying.Said.TheVariants.{Whole, Broken}
use Rattle.exchange_core.specs.declared.state.CourseState.{CourseState}
use Rattle.exchange_core.specs.declared.due.Due.{Due}
use Rattle.exchange_core.specs.declared.due.Due.TheVariants.{GiveBack, HangUp}
use Rattle.exchange_core.specs.declared.event.Event.TheVariants.{Failed, HungUp, Released, Stop, Tried, UserLost}
use Rattle.exchange_core.specs.declared.event.RefusalCause.TheVariants.{Stopping}
use Rattle.exchange_core.specs.declared.phase.Phase.{Phase}
use Rattle.exchange_core.specs.Course.{after}
use Rattle.exchange_core.specs.Dues.{due_of, is_over}
use Rattle.exchange_core.specs.May.{may_come, is_gone, is_head, is_idle, is_refusing}
use Rattle.shard_exchange.specs.Ends.{moves, Halts}

-- a part of a request's head came, and not all of it
abbrev pub is_in_head : Phase → (begun : Bool) → Bool
is_in_head phase begun = (is_idle phase || is_head phase) && begun

-- With no message on its way: the user is lost, or its last refusal is tried no more. It may be gone already.
abbrev pub lost_of : CourseState → CourseState
lost_of c = if may_come c UserLost then after c UserLost else (if may_come c Tried then after c Tried else c)

-- with no message on its way: the exchange stops, and a request of whose head a part came fails of that
abbrev pub stopped_of : (in_head : Bool) → CourseState → CourseState
stopped_of in_head c = if in_head && may_come c (Failed Stopping) then after (after c (Failed Stopping)) Stop else after c Stop

-- the connection of an origin whose message goes no further is closed
abbrev pub hung_up_of : CourseState → CourseState
hung_up_of c = if may_come c (HungUp false) then after c (HungUp false) else c

-- what is due is done so; where another thing is, the course stays as it is
abbrev pub IfDue : Due → (does : CourseState → CourseState → Type 0) → (old new : CourseState) → Type 0
IfDue due does old new = (due_of old ≡ due → does old new) × ((due_of old ≡ due → ⊥) → new ≡ old)

-- What is held goes back, each thing where it is due, and nothing else becomes of the course: first a service's connection, then the
-- reservation, then an origin's connection.
pub record ReturnsAll (returns hangs_up : CourseState → CourseState → Type 0) (old new : CourseState) : Type 0 where
  pub unleased : CourseState
  pub free : CourseState
  pub line : IfDue GiveBack returns old unleased
  pub room : free ≡ (if unleased.stake then after unleased Released else unleased)
  pub origin : IfDue HangUp hangs_up free new

-- The user is gone. A message on its way ended as one of a lost user, and without one the course was told just that; then what was held
-- went back.
pub record IsLost (ends gives_back : CourseState → CourseState → Type 0) (old new : CourseState) : Type 0 where
  pub mid : CourseState
  pub moved : moves old ≡ true → ends old mid
  pub unmoved : moves old ≡ false → mid ≡ lost_of old
  pub back : gives_back mid new

-- The exchange stops, unless it has stopped or its user is gone. A message on its way ends as one that a stop ends, and without one the
-- course is told just that. begun: a byte of the head came that is read.
pub record IsStopped (ends : CourseState → CourseState → Type 0) (begun : Bool) (old new : CourseState) : Type 0 where
  pub none : may_come old Stop ≡ false → new ≡ old
  pub moved : may_come old Stop ≡ true → moves old ≡ true → (mid : CourseState) × ends old mid × (new ≡ hung_up_of mid)
  pub unmoved : may_come old Stop ≡ true → moves old ≡ false → new ≡ hung_up_of (stopped_of (is_in_head old.phase begun) old)

-- The exchange stops so, and its user is owed what it is owed then. Where the user is gone, what was held went back.
pub record IsHalted (ends gives_back : CourseState → CourseState → Type 0) (answered begun : Bool) (old new : CourseState) : Type 0 where
  pub mid : CourseState
  pub stopped : IsStopped ends begun old mid
  pub back : is_gone mid.phase ≡ true → gives_back mid new
  pub kept : is_gone mid.phase ≡ false → new ≡ mid
  pub stops : Halts old new begun
  pub alone : moves old ≡ true → answered ≡ true → is_refusing new.phase ≡ false

-- A user takes its leave: its last refusal is tried no more, and what was held went back, or nothing of that is so yet; then the user is
-- gone, and what is held goes back, or it stays.
pub record IsLeaving (gives_back : CourseState → CourseState → Type 0) (old new : CourseState) : Type 0 where
  pub mid : CourseState
  pub tried : (mid ≡ old) ⊎ gives_back (after old Tried) mid
  pub gone : (new ≡ mid) ⊎ gives_back (lost_of mid) new

-- where a last refusal leads of which so much was said: its end is the exchange's, and what was held goes back; else nothing changes
abbrev pub LastWord : (gives_back : CourseState → CourseState → Type 0) → Said → (old new : CourseState) → Type 0
LastWord gives_back Whole old new = (is_over new ≡ true) × gives_back (after old Tried) new
LastWord gives_back Broken old new = (is_over new ≡ true) × gives_back (after old Tried) new
LastWord gives_back _ old new = new ≡ old
