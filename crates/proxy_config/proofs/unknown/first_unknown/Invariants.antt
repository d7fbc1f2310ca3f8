-- Each key before the rest is known.
use Rattle.toml.specs.View.{table_view}
use Rattle.proxy_config.specs.Unknown.{texts}
use Rattle.proxy_config.proofs.UnknownKeys.{IsLooking}
use Rattle.proxy_config.proofs.unknown.first_unknown.Given as goal

abbrev pub invariant-loop-key : goal.invariant-loop-key
invariant-loop-key l = IsLooking (texts l.known) (table_view l.table) l.key-iterator
