-- Which steps the numbers of a pool allow, what the numbers keep, and their journal.
use Rattle.std.specs.Prelude.{◌≡◌, ℕ, ◌≤◌, ◌<◌, List, [], ◌∷◌, ◌++◌, length, ◌==◌, if◌then◌else◌}
use Rattle.adapt_bytes.specs.declared.limits.TheConstants.{MAX_CONNECTIONS}
use Rattle.service_pool.specs.declared.step.Numbers.{Numbers}
use Rattle.service_pool.specs.declared.step.PoolStep.{PoolStep}
use Rattle.service_pool.specs.declared.step.PoolStep.TheVariants.{Take, Put, GiveUp, Replace, Limit}
use Rattle.service_pool.specs.Replay.{open_count, after, replay}

-- the numbers allow the step: one is idle or fewer than the maximum are leased, where one is taken; one is
-- leased, where one is put or given up, and at most the maximum are open too, where one is replaced; and no
-- maximum is above the greatest
abbrev pub IsAllowed : Numbers → PoolStep → Type 0
IsAllowed n Take = n.idle ≡ 0 → n.leased < n.maximum
IsAllowed n Put = 1 ≤ n.leased
IsAllowed n GiveUp = 1 ≤ n.leased
IsAllowed n Replace = (1 ≤ n.leased) × (open_count n ≤ n.maximum)
IsAllowed n (Limit most) = most ≤ MAX_CONNECTIONS

-- the numbers allow each step of a list where it stands
abbrev pub AreAllowed : Numbers → List PoolStep → Type 0
AreAllowed n [] = Unit {0}
AreAllowed n (step ∷ steps) = IsAllowed n step × AreAllowed (after n step) steps

-- at most the maximum are open, or none is idle
abbrev pub IsWithin : Numbers → Type 0
IsWithin n = 0 < n.idle → open_count n ≤ n.maximum

-- what the numbers keep: at most the maximum are open or none is idle, and none is above the greatest maximum
pub record IsBounded (n : Numbers) : Type 0 where
  pub within : IsWithin n
  pub leased : n.leased ≤ MAX_CONNECTIONS
  pub maximum : n.maximum ≤ MAX_CONNECTIONS

-- what a journal shows: the numbers now, its base, which is the numbers before its oldest step, its steps,
-- the oldest first, and the room for them
pub record Journaled : Type 0 where
  pub numbers : Numbers
  pub base : Numbers
  pub steps : List PoolStep
  pub room : ℕ

-- a journal with no step
abbrev pub opening : Numbers → ℕ → Journaled
opening n room = record { numbers = n; base = n; steps = []; room = room }

-- a full journal takes the present numbers as its base, and starts empty
abbrev pub rebased : Journaled → Journaled
rebased j = if length j.steps == j.room then record j { base = j.numbers; steps = [] } else j

-- the journal without its oldest step, which goes into the base
abbrev pub shortened : Journaled → List PoolStep → Journaled
shortened j [] = j
shortened j (step ∷ steps) = record j { base = after j.base step; steps = steps }

-- a full journal lets its oldest step go
abbrev pub slid : Journaled → Journaled
slid j = if length j.steps == j.room then shortened j j.steps else j

-- the step is taken, and stands at the end of the journal
abbrev pub pushed : Journaled → PoolStep → Journaled
pushed j step = record j { numbers = after j.numbers step; steps = j.steps ++ step ∷ [] }

-- the journal after a step, for which a full one makes room in its way
abbrev pub stepped : (Journaled → Journaled) → Journaled → PoolStep → Journaled
stepped make_room j step = pushed (make_room j) step

-- the journal after all steps of a list
abbrev pub run : (Journaled → Journaled) → Journaled → List PoolStep → Journaled
run make_room j [] = j
run make_room j (step ∷ steps) = run make_room (stepped make_room j step) steps

-- what every journal keeps: its steps replay from its base to the numbers now, each was allowed where it
-- stands, the numbers are in their bounds, and it has room for at least one step
pub record IsSound (j : Journaled) : Type 0 where
  pub replayed : replay j.base j.steps ≡ j.numbers
  pub start : IsBounded j.base
  pub allowed : AreAllowed j.base j.steps
  pub bounded : IsBounded j.numbers
  pub steps : length j.steps ≤ j.room
  pub room : 0 < j.room
