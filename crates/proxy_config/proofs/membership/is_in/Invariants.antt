-- The address is in none of the networks before this one.
use Rattle.proxy_config.proofs.NetworkLists.{IsLeft}
use Rattle.proxy_config.proofs.membership.is_in.Given as goal

abbrev pub invariant-loop-network : goal.invariant-loop-network
invariant-loop-network l = IsLeft l.networks l.address l.network-index
