-- None of the youngest connections, which were passed, is both picked and preferred.
use Rattle.std.specs.Prelude.{◌-◌}
use Rattle.std.specs.VecDeque.{deque_len}
use Rattle.service_pool.specs.Pooled.{NonePreferred}
use Rattle.service_pool.proofs.state.youngest_preferred.Given as goal

-- none of those that were passed, the youngest ones, is picked by the one test and preferred by the other
abbrev pub invariant-loop-passed : goal.invariant-loop-passed
invariant-loop-passed g l = NonePreferred g.F.Fn l.picked g.G.Fn l.prefers l.idle.items (deque_len l.idle - l.passed)
