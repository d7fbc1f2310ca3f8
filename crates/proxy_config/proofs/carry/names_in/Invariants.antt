-- The names of the values before this one are those so far.
use Rattle.proxy_config.proofs.CarryLemmas.{AreSoFar}
use Rattle.proxy_config.proofs.carry.names_in.Given as goal

abbrev pub invariant-loop-value : goal.invariant-loop-value
invariant-loop-value l = AreSoFar l.values l.names.items l.value-index
