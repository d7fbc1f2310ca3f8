-- In each turn so far one idle connection was looked at, and wasn't fit for use.
use Rattle.std.proofs.Common.{List}
use Rattle.service_pool.specs.declared.connector.Act.{Act}
use Rattle.service_pool.specs.Lending.{after_dead}
use Rattle.service_pool.proofs.pools.Pools.take_live.Given as goal

-- each round passed one idle connection over
abbrev pub invariant-loop : goal.invariant-loop
invariant-loop g l = (p : List Act) → g.C.Keeper.past l.initial.connector p → g.C.Keeper.past l.connector (after_dead l.counter p)
