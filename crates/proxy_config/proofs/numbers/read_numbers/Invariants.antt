-- The keys before this one are good, and those from it on come next.
use Rattle.toml.specs.View.{table_view}
use Rattle.proxy_config.specs.Numbers.{key_rules}
use Rattle.proxy_config.proofs.NumberRuns.{AreReadTo}
use Rattle.proxy_config.proofs.numbers.read_numbers.Given as goal

abbrev pub invariant-loop-i : goal.invariant-loop-i
invariant-loop-i g l = AreReadTo (key_rules l.keys) (table_view l.table) l.numbers l.i g.row.N
