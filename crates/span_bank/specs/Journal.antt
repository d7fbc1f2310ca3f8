-- Which steps the totals of a budget allow, what the totals keep, and their journal.
use Rattle.std.specs.Prelude.{◌≡◌, ℕ, ◌+◌, ◌≤◌, ◌<◌, List, [], ◌∷◌, ◌++◌, length, ◌==◌, if◌then◌else◌}
use Rattle.span_bank.specs.declared.limits.TheConstants.{MAX_CAPACITY, MAX_ROWS}
use Rattle.span_bank.specs.declared.step.Numbers.{Numbers}
use Rattle.span_bank.specs.declared.step.BankStep.{BankStep}
use Rattle.span_bank.specs.declared.step.BankStep.TheVariants.{Open, Grow, Shrink, Reclaim, Close, Capacity}
use Rattle.span_bank.specs.Replay.{after, replay}

-- the totals allow the step: what is taken off is there, what is held stays within what is reserved, and what is
-- reserved within the capacity
abbrev pub IsAllowed : Numbers → BankStep → Type 0
IsAllowed b (Open claim) = (1 ≤ claim) × (b.claimed + claim ≤ b.capacity) × (b.rows < MAX_ROWS)
IsAllowed b (Grow n) = (1 ≤ n) × (b.held + n ≤ b.claimed)
IsAllowed b (Shrink n) = (1 ≤ n) × (n ≤ b.held)
IsAllowed b (Reclaim old new) = (new ≤ old) × (b.held + old ≤ b.claimed + new)
IsAllowed b (Close claim) = (1 ≤ b.rows) × (b.held + claim ≤ b.claimed)
IsAllowed b (Capacity n) = (1 ≤ n) × (n ≤ MAX_CAPACITY) × (b.claimed ≤ n)

-- the totals allow each step of a list where it stands
abbrev pub AreAllowed : Numbers → List BankStep → Type 0
AreAllowed b [] = Unit {0}
AreAllowed b (s ∷ ss) = IsAllowed b s × AreAllowed (after b s) ss

-- what the totals keep: held is at most claimed, claimed at most the capacity, and no number is above its greatest
pub record IsBounded (b : Numbers) : Type 0 where
  pub held : b.held ≤ b.claimed
  pub claimed : b.claimed ≤ b.capacity
  pub capacity : b.capacity ≤ MAX_CAPACITY
  pub rows : b.rows ≤ MAX_ROWS

-- what a journal shows: the totals now, its base, which is the totals before its oldest step, its steps, the oldest
-- first, and the room for them
pub record Journaled : Type 0 where
  pub numbers : Numbers
  pub base : Numbers
  pub steps : List BankStep
  pub room : ℕ

-- a journal with no step
abbrev pub opening : Numbers → ℕ → Journaled
opening b room = record { numbers = b; base = b; steps = []; room = room }

-- a full journal takes the present totals as its base, and starts empty
abbrev pub rebased : Journaled → Journaled
rebased j = if length j.steps == j.room then record j { base = j.numbers; steps = [] } else j

-- the journal without its oldest step, which goes into the base
abbrev pub shortened : Journaled → List BankStep → Journaled
shortened j [] = j
shortened j (s ∷ ss) = record j { base = after j.base s; steps = ss }

-- a full journal lets its oldest step go
abbrev pub slid : Journaled → Journaled
slid j = if length j.steps == j.room then shortened j j.steps else j

-- the step is taken, and stands at the end of the journal
abbrev pub pushed : Journaled → BankStep → Journaled
pushed j s = record j { numbers = after j.numbers s; steps = j.steps ++ s ∷ [] }

-- the journal after a step, for which a full one makes room in its way
abbrev pub stepped : (Journaled → Journaled) → Journaled → BankStep → Journaled
stepped make_room j s = pushed (make_room j) s

-- the journal after all steps of a list
abbrev pub run : (Journaled → Journaled) → Journaled → List BankStep → Journaled
run make_room j [] = j
run make_room j (s ∷ ss) = run make_room (stepped make_room j s) ss

-- what every journal keeps: its steps replay from its base to the totals now, each was allowed where it stands, the
-- totals are in their bounds, and it has room for at least one step
pub record IsSound (j : Journaled) : Type 0 where
  pub replayed : replay j.base j.steps ≡ j.numbers
  pub start : IsBounded j.base
  pub allowed : AreAllowed j.base j.steps
  pub bounded : IsBounded j.numbers
  pub steps : length j.steps ≤ j.room
  pub room : 0 < j.room
