-- What a turn of a side answers, and turns in a row.
use Rattle.std.specs.Prelude.{◌≡◌, ◌↔◌, ℕ, ◌<◌, ◌⊎◌, Bool, true, false, List, [], ◌∷◌}
use Rattle.trace_core.specs.declared.history.Cause.{Cause}
use Rattle.trace_core.specs.declared.history.Cause.TheVariants.{Deadline, Stopping}
use Rattle.adapt_sides.specs.Turns.{Gift}
use Rattle.adapt_sides.specs.Turns.Gift.{nothing}
use Rattle.adapt_hold.specs.Holding.{Holding}
use Rattle.plan_rules.specs.declared.pace.Pace.{Pace}
use Rattle.adapt_turn.specs.declared.pass.PassAnswer.{PassAnswer}
use Rattle.adapt_turn.specs.declared.turn.Side.{Side}
use Rattle.adapt_turn.specs.declared.turn.Side.TheVariants.{Source, Service, NextHop}
use Rattle.adapt_turn.specs.declared.turn.Outcome.{Outcome}
use Rattle.adapt_turn.specs.declared.turn.Outcome.TheVariants as outcomes
use Rattle.adapt_turn.specs.declared.turn.TurnAnswer.{TurnAnswer}
use Rattle.adapt_turn.specs.declared.turn.TurnAnswer.TheVariants as answers

-- what is so for a turn of this side
abbrev pub BySide : Side → (source service next : Type 0) → Type 0
BySide Source source service next = source
BySide Service source service next = service
BySide NextHop source service next = next

-- what is so of the writer that has the message: the one back to the user where that was begun, else the next hop's
abbrev pub OfWriter : (back_gift : Gift) → (next back : Type 0) → Type 0
OfWriter back_gift next back = (back_gift ≡ nothing → next) × ((back_gift ≡ nothing → ⊥) → back)

-- What is so for each answer.
pub record OnAnswer : Type 1 where
  pub waiting : Type 0
  pub moved : ℕ → Type 0
  pub broken : Type 0
  pub finished : Outcome → Type 0

-- and what is so for this one
abbrev pub ByAnswer : TurnAnswer → OnAnswer → Type 0
ByAnswer answers.Waiting on = on.waiting
ByAnswer (answers.Moved n) on = on.moved n
ByAnswer answers.Broken on = on.broken
ByAnswer (answers.Finished outcome) on = on.finished outcome

-- What a turn answers, by what its pass did and how many bytes the wires moved.
pub record IsAnswerTo (passed : PassAnswer) (bytes : ℕ) (said : TurnAnswer) : Type 0 where
  pub waiting : said ≡ answers.Waiting → (passed.waiting ≡ true) × (bytes ≡ 0)
  pub broken : said ≡ answers.Broken → passed.broken ≡ true
  pub breaks : passed.broken ≡ true → said ≡ answers.Broken
  pub moved : (n : ℕ) → said ≡ answers.Moved n → n ≡ bytes
  pub active : (n : ℕ) → said ≡ answers.Moved n → (passed.waiting ≡ true → 0 < n) × (passed.broken ≡ false)
  pub unfinished : (outcome : Outcome) → said ≡ answers.Finished outcome → ⊥

-- How a turn at this moment leaves the clock, which counts from the last moved byte, and the marks of the service's connection. Of one
-- that isn't closed it counts the bytes that moved, as many as the turn says; of a closed one the clock stands.
pub record Paces (closed : Bool) (old new : Pace) (now : ℕ) (moves : ℕ → Type 0) (said : TurnAnswer) : Type 0 where
  pub moment : (new.last_moved ≡ old.last_moved) ⊎ (new.last_moved ≡ now)
  pub clock : closed ≡ false → (n : ℕ) × moves n × (n ≡ 0 → new.last_moved ≡ old.last_moved) × (0 < n → new.last_moved ≡ now)
      × ((m : ℕ) → said ≡ answers.Moved m → m ≡ n)
  pub still : said ≡ answers.Waiting → new.last_moved ≡ old.last_moved
  pub rests : closed ≡ true → new.last_moved ≡ old.last_moved
  pub limit : new.deadline ≡ old.deadline
  pub marked : new.broken ≡ true ↔ (old.broken ≡ true) ⊎ (said ≡ answers.Broken)
  pub reused : new.reused ≡ old.reused

-- How a transaction ends, at one moment.
pub record Ending : Type 1 where
  pub hold : Holding
  pub outcome : Outcome
  -- a refusal is due
  pub refusing : Bool
  -- it is out, or its wire has failed
  pub is_over : Type 0
  -- the user has the refusal of this cause, or a byte of an answer has gone out
  pub refuses : Cause → Type 0

-- What a turn leaves of a transaction that was closed: how it ended, and whether a refusal is due, and which. It answers Finished
-- once none is due, or
-- the one that is due is over.
pub record StaysClosed (old new : Ending) (said : TurnAnswer) : Type 0 where
  pub hold : new.hold ≡ old.hold
  pub outcome : new.outcome ≡ old.outcome
  pub refusing : new.refusing ≡ old.refusing
  pub finishes : (old.refusing ≡ false) ⊎ old.is_over → said ≡ answers.Finished old.outcome
  pub refuses : (cause : Cause) → old.refuses cause → new.refuses cause

-- How a transaction ends after a turn, and what may be the reason.
pub record Failing : Type 1 where
  pub outcome : Outcome
  -- the deadline has passed
  pub late : Type 0
  -- the deadline or a side is the reason for this cause
  pub blame : Cause → Type 0
  -- the user has the refusal of this cause, or a byte of an answer has gone out
  pub refuses : Cause → Type 0
  -- no head could be made, for this cause
  pub unmade : Cause → Type 0

-- Why a transaction failed, where that is how it ended: the cause has a reason, and the user has its refusal or a byte of an answer. It
-- fails as Deadline only where that has passed, and as Stopping never, but where no head could be made for just that cause.
pub record WhyFailed (f : Failing) : Type 0 where
  pub fails : (cause : Cause) → f.outcome ≡ outcomes.Fail cause → f.blame cause
  pub refuses : (cause : Cause) → f.outcome ≡ outcomes.Fail cause → f.refuses cause
  pub timely : f.outcome ≡ outcomes.Fail Deadline → f.late ⊎ f.unmade Deadline
  pub unstopped : f.outcome ≡ outcomes.Fail Stopping → f.unmade Stopping

-- a turn for each side of the schedule, in its order, and no other
abbrev pub Drives : {T : Type 0} → (T → Side → T → Type 0) → T → List Side → T → Type 0
Drives turns old [] new = new ≡ old
Drives {T} turns old (side ∷ sides) new = (mid : T) × turns old side mid × Drives turns mid sides new
