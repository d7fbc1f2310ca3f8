-- No key before this one has the name.
use Rattle.std.proofs.Common.{◌≡◌, drop}
use Rattle.proxy_config.specs.Numbers.{key_rules, rule_named}
use Rattle.proxy_config.proofs.numbers.key_in.Given as goal

abbrev pub invariant-loop-key : goal.invariant-loop-key
invariant-loop-key l = rule_named (key_rules l.keys) l.name ≡ rule_named (key_rules (drop l.key-index l.keys)) l.name
