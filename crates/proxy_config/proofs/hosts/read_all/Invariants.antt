-- The names before the rest were read.
use Rattle.toml.specs.View.{table_view}
use Rattle.proxy_config.proofs.HostReading.{IsReading}
use Rattle.proxy_config.proofs.hosts.read_all.Given as goal

abbrev pub invariant-loop-name : goal.invariant-loop-name
invariant-loop-name l = IsReading (table_view l.names) l.seen l.all.items l.name-iterator
