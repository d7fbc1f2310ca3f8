-- None of the keys before this one differs.
use Rattle.std.proofs.Common.{◌≡◌, drop}
use Rattle.proxy_config.specs.Changes.{first_differing}
use Rattle.proxy_config.specs.Numbers.{key_rules}
use Rattle.proxy_config.proofs.changes.first_differing.Given as goal

abbrev pub invariant-loop-i : goal.invariant-loop-i
invariant-loop-i g l =
    first_differing (key_rules l.keys) l.old l.new ≡ first_differing (key_rules (drop l.i l.keys)) (drop l.i l.old) (drop l.i l.new)
