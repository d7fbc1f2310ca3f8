-- The keys before this one have one value.
use Rattle.std.proofs.Common.{◌≡◌, drop}
use Rattle.proxy_config.specs.Changes.{first_other, shown}
use Rattle.proxy_config.proofs.changes.first_other.Given as goal

abbrev pub invariant-loop-key : goal.invariant-loop-key
invariant-loop-key l = first_other (shown l.checks) ≡ first_other (shown (drop l.key-index l.checks))
