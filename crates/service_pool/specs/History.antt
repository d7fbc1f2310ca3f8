-- What is said of all steps that a pool ever took.
use Rattle.std.specs.Prelude.{◌≡◌, Bool, true, false, List, ◌++◌}
use Rattle.service_pool.specs.declared.step.Numbers.{Numbers}
use Rattle.service_pool.specs.declared.step.PoolStep.{PoolStep}
use Rattle.service_pool.specs.declared.step.PoolStep.TheVariants.{Take, Put, GiveUp, Limit}
use Rattle.service_pool.specs.Replay.{replay}
use Rattle.service_pool.specs.Journal.{Journaled}

-- the step leases a connection
abbrev pub is_take : PoolStep → Bool
is_take Take = true
is_take _ = false

-- the step ends a lease
abbrev pub is_return : PoolStep → Bool
is_return Put = true
is_return GiveUp = true
is_return _ = false

-- the step sets the maximum
abbrev pub is_limit : PoolStep → Bool
is_limit (Limit most) = true
is_limit _ = false

-- of all these steps the journal has the last ones; its base is what the earlier ones replay to, and its
-- numbers are what all of them do
pub record HasLast (start : Numbers) (past : List PoolStep) (j : Journaled) : Type 0 where
  pub earlier : List PoolStep
  pub joined : past ≡ earlier ++ j.steps
  pub base : j.base ≡ replay start earlier
  pub numbers : j.numbers ≡ replay start past
