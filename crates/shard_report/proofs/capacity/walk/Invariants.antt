-- The capacity reached so far is at least 1, and no more than a bank may have.
use Rattle.std.proofs.Common.{◌≤◌}
use Rattle.span_bank.specs.declared.limits.TheConstants.{MAX_CAPACITY}
use Rattle.shard_report.proofs.capacity.walk.Given as goal

abbrev pub invariant-loop : goal.invariant-loop
invariant-loop g l = (1 ≤ l.at) × (l.at ≤ MAX_CAPACITY)
