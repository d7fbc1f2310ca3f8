-- The hosts before this one haven't the wanted name.
use Rattle.std.proofs.Common.{◌≡◌, drop}
use Rattle.proxy_config.specs.Hosts.{address_of_name}
use Rattle.proxy_config.proofs.hosts.among.Given as goal

abbrev pub invariant-loop-host : goal.invariant-loop-host
invariant-loop-host l = address_of_name l.name l.hosts ≡ address_of_name l.name (drop l.host-index l.hosts)
