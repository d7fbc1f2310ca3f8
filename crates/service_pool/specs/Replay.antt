-- The numbers of a pool after a step, and after a list of steps.
use Rattle.std.specs.Prelude.{ℕ, ◌+◌, ◌-◌, List, [], ◌∷◌, min, ◌==◌, nat_le, nat_lt, if◌then◌else◌}
use Rattle.service_pool.specs.declared.step.Numbers.{Numbers}
use Rattle.service_pool.specs.declared.step.PoolStep.{PoolStep}
use Rattle.service_pool.specs.declared.step.PoolStep.TheVariants.{Take, Put, GiveUp, Replace, Limit}

-- how many connections are open: those that are idle and those that are leased
abbrev pub open_count : Numbers → ℕ
open_count n = n.idle + n.leased

-- a take leases an idle connection, or opens one where none is idle and fewer than the maximum are leased
abbrev pub after_take : Numbers → Numbers
after_take n =
    if n.idle == 0 then (if nat_lt n.leased n.maximum then record n { leased = n.leased + 1 } else n)
    else record n { idle = n.idle - 1; leased = n.leased + 1 }

-- the numbers after one step. What is put is kept where at most the maximum were open, itself among them.
-- A connection that is replaced closes before the other opens, so it changes no number.
-- A limit closes idle connections until at most that many are open or none is idle
abbrev pub after : Numbers → PoolStep → Numbers
after n Take = after_take n
after n Put =
    if nat_le (open_count n) n.maximum then record n { idle = n.idle + 1; leased = n.leased - 1 }
    else record n { leased = n.leased - 1 }
after n GiveUp = record n { leased = n.leased - 1 }
after n Replace = n
after n (Limit most) = record n { idle = min n.idle (most - n.leased); maximum = most }

-- the numbers after all steps of a list
abbrev pub replay : Numbers → List PoolStep → Numbers
replay n [] = n
replay n (step ∷ steps) = replay (after n step) steps
