-- What a step of an exchange keeps to.
use Rattle.std.specs.Prelude.{◌≡◌, Bool, true, false, not, ⊤}
use Rattle.exchange_core.specs.declared.state.CourseState.{CourseState}
use Rattle.exchange_core.specs.declared.due.Due.{Due}
use Rattle.exchange_core.specs.declared.due.Due.TheVariants.{Plan, Lend, Ask, Reserve, Dial, Start, AskGate, Turn, GiveBack, Release}
use Rattle.exchange_core.specs.declared.due.Due.TheVariants.{HangUp}
use Rattle.exchange_core.specs.Dues.{due_of, is_wait}
use Rattle.exchange_core.specs.Log.{Goes}
use Rattle.shard_exchange.specs.Ends.{is_stopped}
use Rattle.shard_exchange.specs.declared.tasks.Step.{Step}
use Rattle.shard_exchange.specs.declared.tasks.Step.TheVariants.{On, Turned, Unmoved, Waits, Over}
use Rattle.shard_exchange.specs.declared.tasks.Task.{Task}
use Rattle.shard_exchange.specs.declared.tasks.Task.TheVariants as tasks

-- who waits, or hasn't moved, has a deadline, and it hasn't passed; and only the course says what is over
abbrev pub Heeds : (late : Bool) → CourseState → Step → Type 0
Heeds late c Waits = (late ≡ false) × (is_wait (due_of c) ≡ true)
Heeds late c On = ⊤
Heeds late c (Turned framing) = ⊤
Heeds late c Unmoved = late ≡ false
Heeds late c Over = ⊥

-- it is due for a message whose transaction stands
abbrev pub is_moved : Due → Bool
is_moved AskGate = true
is_moved Turn = true
is_moved _ = false

-- it waits for nobody
abbrev pub is_at_once : Due → Bool
is_at_once Plan = true
is_at_once Lend = true
is_at_once Ask = true
is_at_once Reserve = true
is_at_once Dial = true
is_at_once Start = true
is_at_once AskGate = true
is_at_once GiveBack = true
is_at_once Release = true
is_at_once HangUp = true
is_at_once _ = false

-- what waits for nobody is due no more
abbrev pub IsDone : (old new : CourseState) → Type 0
IsDone old new = is_at_once (due_of old) ≡ true → due_of new ≡ due_of old → ⊥

-- events that may come lead on, and what waits for nobody is due no more
abbrev pub GoesOn : (old new : CourseState) → Type 0
GoesOn old new = Goes old new × IsDone old new

-- the task does what is due: so does a leave where nothing was stopped
abbrev pub is_step : Task → CourseState → Bool
is_step tasks.Step c = true
is_step tasks.TakeLeave c = not (is_stopped c)
is_step _ c = false

-- the task ends the exchange, whatever it is in the midst of
abbrev pub is_end : Task → Bool
is_end tasks.Lose = true
is_end tasks.Halt = true
is_end _ = false
