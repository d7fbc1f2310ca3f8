-- A pool of the world as the numbers of a pool, and the events of the world as the pool's steps.
use Rattle.std.specs.Prelude.{ℕ, ◌==◌, ◌&&◌, ◌≤◌, Bool, ⊤, List, [], ◌∷◌, ◌++◌, Option, Some, None, if◌then◌else◌}
use Rattle.trace_core.specs.History.{is_retry}
use Rattle.world_core.specs.declared.event.WorldEvent.{WorldEvent}
use Rattle.world_core.specs.declared.event.WorldEvent.TheVariants.{Lease, Open, Of, Back, Reclaim, Close, Limit, Capacity}
use Rattle.world_core.specs.WorldHistory.{lease_of, is_service}
use Rattle.world_core.specs.WorldHistory as world
use Rattle.adapt_bytes.specs.declared.limits.TheConstants.{MAX_CONNECTIONS}
use Rattle.service_pool.specs.declared.step.Numbers.{Numbers}
use Rattle.service_pool.specs.declared.step.PoolStep.{PoolStep}
use Rattle.service_pool.specs.declared.step.PoolStep.TheVariants as pool

-- the numbers of a service's pool
abbrev pub numbers_of : world.Numbers → Numbers
numbers_of p = record { idle = p.idle; leased = p.leased; maximum = p.maximum }

-- a connection that comes back is put where it is kept, and given up otherwise
abbrev pub back_step : Bool → PoolStep
back_step kept = if kept then pool.Put else pool.GiveUp

-- the step of the service's pool that an event is, after these ones
abbrev pub pool_step : ℕ → List WorldEvent → WorldEvent → Option PoolStep
pool_step s before (Lease t u) = if u == s then Some pool.Take else None
pool_step s before (Of t event) = if is_retry event && is_service s (lease_of t before) then Some pool.Replace else None
pool_step s before (Back t kept) = if is_service s (lease_of t before) then Some (back_step kept) else None
pool_step s before (Limit u n) = if u == s then Some (pool.Limit n) else None
pool_step s before (Open t plan claim) = None
pool_step s before (Reclaim t claim) = None
pool_step s before (Close t) = None
pool_step s before (Capacity n) = None

-- a step, if there is one, after others
abbrev pub with_step : List PoolStep → Option PoolStep → List PoolStep
with_step steps None = steps
with_step steps (Some step) = steps ++ step ∷ []

-- the steps of the service's pool in a history, the oldest first
abbrev pub pool_steps : ℕ → List WorldEvent → List PoolStep
pool_steps s [] = []
pool_steps s (event ∷ before) = with_step (pool_steps s before) (pool_step s before event)

-- a maximum is a number that a pool takes
abbrev pub IsPoolEvent : WorldEvent → Type 0
IsPoolEvent (Limit s n) = n ≤ MAX_CONNECTIONS
IsPoolEvent _ = ⊤

-- so it is all along
abbrev pub ArePoolEvents : List WorldEvent → Type 0
ArePoolEvents [] = ⊤
ArePoolEvents (event ∷ before) = IsPoolEvent event × ArePoolEvents before
