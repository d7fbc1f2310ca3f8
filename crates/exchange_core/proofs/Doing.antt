-- What comes of doing what is due may come.
use Rattle.std.proofs.Common.{◌≡◌, ◌||◌, true, false, List, subst, arith}
use Rattle.std.proofs.lemmas.Bool.Decides.{nat_tests}
use Rattle.exchange_core.specs.declared.event.Event.{Event}
use Rattle.exchange_core.specs.declared.event.Event.TheVariants.{HeadBegun, RequestRead, ResponseRead, Stale, Queued, Lent, Asked, Learned}
use Rattle.exchange_core.specs.declared.event.Event.TheVariants.{Planned, Reserved, HalfTold, Stuck, Told, Dialed, Started, LetPass}
use Rattle.exchange_core.specs.declared.event.Event.TheVariants.{Renewed, Served, Begun, Sent, Heard, Withdrawn, Answered, Failed, Returned}
use Rattle.exchange_core.specs.declared.event.Event.TheVariants.{Released, HungUp, Refused, UserClosed, UserLost, Dropped, Late, Drain}
use Rattle.exchange_core.specs.declared.event.Event.TheVariants.{Stop, Tried}
use Rattle.exchange_core.specs.declared.due.Due.{Due}
use Rattle.exchange_core.specs.declared.due.Due.TheVariants.{Await, Start, Turn, ReadResponse}
use Rattle.exchange_core.specs.declared.event.RefusalCause.{RefusalCause}
use Rattle.exchange_core.specs.declared.state.CourseState.{CourseState}
use Rattle.exchange_core.specs.May.{is_refusing, is_gone, may_come, is_free}
use Rattle.exchange_core.specs.Dues.{due_of, comes_of, fits, is_wait, is_for_message, fails_of, is_for_user, is_between}
use Rattle.exchange_core.specs.Log.{course_of, IsLegal, IsReached}
use Rattle.exchange_core.proofs.Sound.{Sound, sound}
use Rattle.exchange_core.proofs.Going.{waits_late}

-- in a sound course, an event that comes of what is due and fits may come
done_at : (c : CourseState) (event : Event) → Sound c → comes_of (due_of c) event ≡ true → fits c event ≡ true → may_come c event ≡ true
done_at c HeadBegun s d f = grind (arith, nat_tests)
done_at c RequestRead s d f = grind (arith, nat_tests)
done_at c ResponseRead s d f = grind (arith, nat_tests)
done_at c Stale s d f = grind (arith, nat_tests)
done_at c Queued s d f = grind (arith, nat_tests)
done_at c (Lent reused) s d f = grind (arith, nat_tests)
done_at c Asked s d f = grind (arith, nat_tests)
done_at c (Learned usable) s d f = grind (arith, nat_tests)
done_at c (Planned offered waits repeatable) s d f = grind (arith, nat_tests)
done_at c Reserved s d f = grind (arith, nat_tests)
done_at c HalfTold s d f = grind (arith, nat_tests)
done_at c Stuck s d f = grind (arith, nat_tests)
done_at c Told s d f = grind (arith, nat_tests)
done_at c (Dialed kept) s d f = grind (arith, nat_tests)
done_at c Started s d f = grind (arith, nat_tests)
done_at c LetPass s d f = grind (arith, nat_tests)
done_at c Renewed s d f = grind (arith, nat_tests)
done_at c (Served usable) s d f = grind (arith, nat_tests)
done_at c Begun s d f = grind (arith, nat_tests)
done_at c Sent s d f = grind (arith, nat_tests)
done_at c Heard s d f = grind (arith, nat_tests)
done_at c Withdrawn s d f = grind (arith, nat_tests)
done_at c (Answered keeps lasts) s d f = grind (arith, nat_tests)
done_at c (Failed why) s d f = grind (arith, nat_tests)
done_at c (Returned kept) s d f = grind (arith, nat_tests)
done_at c Released s d f = grind (arith, nat_tests)
done_at c (HungUp kept) s d f = grind (arith, nat_tests)
done_at c Refused s d f = grind (arith, nat_tests)
done_at c UserClosed s d f = grind (arith, nat_tests)
done_at c UserLost s d f = grind (arith, nat_tests)
done_at c Dropped s d f = grind (arith, nat_tests)
done_at c Late s d f = grind (arith, nat_tests)
done_at c Drain s d f = grind (arith, nat_tests)
done_at c Stop s d f = grind (arith, nat_tests)
done_at c Tried s d f = grind (arith, nat_tests)

-- after a legal log, an event that comes of what is due and fits may come
pub done : (events : List Event) (event : Event) → IsLegal events → comes_of (due_of (course_of events)) event ≡ true
    → fits (course_of events) event ≡ true → may_come (course_of events) event ≡ true
done events event l d f = done_at (course_of events) event (sound events l) d f

-- the same wherever some legal log leads
sound_there : (c : CourseState) → IsReached c → Sound c
sound_there c r = subst Sound r.2 (sound r.0 r.1)

-- in a course that is reached, an event that comes of what is due and fits may come
pub done_there : (c : CourseState) (event : Event) → IsReached c → comes_of (due_of c) event ≡ true → fits c event ≡ true
    → may_come c event ≡ true
done_there c event r d f = done_at c event (sound_there c r) d f

-- in a course that is reached, a deadline may pass where what is due may have to wait
pub late_there : (c : CourseState) → IsReached c → is_wait (due_of c) ≡ true → may_come c Late ≡ true
late_there c r w = waits_late c (sound_there c r) w

-- in a sound course, the reservation and the origin are open where a transaction is to start
starts_at : (c : CourseState) → Sound c → due_of c ≡ Start → (c.stake ≡ true) × (c.origin ≡ true)
starts_at c s d = grind (arith, nat_tests)

-- in a sound course, the reservation and the origin are open where a transaction is to turn
turns_at : (c : CourseState) → Sound c → due_of c ≡ Turn → (c.stake ≡ true) × (c.origin ≡ true)
turns_at c s d = grind (arith, nat_tests)

-- in a sound course, the origin is open where the head of its response is to be read
hears_at : (c : CourseState) → Sound c → due_of c ≡ ReadResponse → c.origin ≡ true
hears_at c s d = grind (arith, nat_tests)

-- in a course that is reached, the reservation and the origin are open where a transaction is to start
pub starts_there : (c : CourseState) → IsReached c → due_of c ≡ Start → (c.stake ≡ true) × (c.origin ≡ true)
starts_there c r d = starts_at c (sound_there c r) d

-- in a course that is reached, the reservation and the origin are open where a transaction is to turn
pub turns_there : (c : CourseState) → IsReached c → due_of c ≡ Turn → (c.stake ≡ true) × (c.origin ≡ true)
turns_there c r d = turns_at c (sound_there c r) d

-- where something is due for a message, the message may fail of any cause
pub fails_there : (c : CourseState) (why : RefusalCause) → is_for_message (due_of c) ≡ true → may_come c (Failed why) ≡ true
fails_there c why d = grind (arith, nat_tests)

-- what fails of a cause is due for a message
for_message : (d : Due) (why : RefusalCause) → fails_of d why ≡ true → is_for_message d ≡ true
for_message d why f = grind (arith, nat_tests)

-- where what is due fails of a cause, the message may fail of that cause
pub fails_so : (c : CourseState) (why : RefusalCause) → fails_of (due_of c) why ≡ true → may_come c (Failed why) ≡ true
fails_so c why f = fails_there c why (for_message (due_of c) why f)

-- in a sound course, the proxy doesn't stop where something is due for a user
serves_at : (c : CourseState) → Sound c → is_for_user (due_of c) ≡ true → c.stopping ≡ false
serves_at c s d = grind (arith, nat_tests)

-- in a sound course, a user for which something is due may be lost
loses_at : (c : CourseState) → Sound c → is_for_user (due_of c) ≡ true → may_come c UserLost ≡ true
loses_at c s d = grind (arith, nat_tests)

-- in a sound course, a user with no request under way may be dropped
drops_at : (c : CourseState) → Sound c → is_between (due_of c) ≡ true → may_come c Dropped ≡ true
drops_at c s d = grind (arith, nat_tests)

-- in a sound course, no lease or reservation is held where a connection is to be waited for
queues_at : (c : CourseState) → Sound c → due_of c ≡ Await → is_free c ≡ true
queues_at c s d = grind (arith, nat_tests)

-- in a course that is reached, no lease or reservation is held where a connection is to be waited for
pub queues_there : (c : CourseState) → IsReached c → due_of c ≡ Await → is_free c ≡ true
queues_there c r d = queues_at c (sound_there c r) d

-- in a course that is reached, the proxy doesn't stop where something is due for a user
pub serves_there : (c : CourseState) → IsReached c → is_for_user (due_of c) ≡ true → c.stopping ≡ false
serves_there c r d = serves_at c (sound_there c r) d

-- in a course that is reached, a user for which something is due may be lost
pub loses_there : (c : CourseState) → IsReached c → is_for_user (due_of c) ≡ true → may_come c UserLost ≡ true
loses_there c r d = loses_at c (sound_there c r) d

-- in a course that is reached, a user with no request under way may be dropped
pub drops_there : (c : CourseState) → IsReached c → is_between (due_of c) ≡ true → may_come c Dropped ≡ true
drops_there c r d = drops_at c (sound_there c r) d

-- in a course that is reached, the origin is open where the head of its response is to be read
pub hears_there : (c : CourseState) → IsReached c → due_of c ≡ ReadResponse → c.origin ≡ true
hears_there c r d = hears_at c (sound_there c r) d

-- in a course that is reached, a refusal is due or the user is gone once the proxy stops
pub stops_there : (c : CourseState) → IsReached c → c.stopping ≡ true → (is_refusing c.phase || is_gone c.phase) ≡ true
stops_there c r = (sound_there c r).stopped
