-- The test picks none of the youngest connections, which were passed.
use Rattle.std.specs.Prelude.{◌-◌}
use Rattle.std.specs.VecDeque.{deque_len}
use Rattle.service_pool.specs.Pooled.{NonePicked}
use Rattle.service_pool.proofs.state.youngest_picked.Given as goal

-- the test picks none of those that were passed, the youngest ones
abbrev pub invariant-loop-passed : goal.invariant-loop-passed
invariant-loop-passed g l = NonePicked g.F.Fn l.picked l.idle.items (deque_len l.idle - l.passed)
