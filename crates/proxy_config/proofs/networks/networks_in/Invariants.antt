-- Each value before this one is a network.
use Rattle.proxy_config.proofs.NetworkLists.{AreSoFar}
use Rattle.proxy_config.proofs.networks.networks_in.Given as goal

abbrev pub invariant-loop-value : goal.invariant-loop-value
invariant-loop-value l = AreSoFar l.values l.networks.items l.value-index
