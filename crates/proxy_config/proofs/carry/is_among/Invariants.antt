-- The name is none of those before this one.
use Rattle.proxy_config.proofs.CarryLemmas.{IsLeft}
use Rattle.proxy_config.proofs.carry.is_among.Given as goal

abbrev pub invariant-loop-other : goal.invariant-loop-other
invariant-loop-other l = IsLeft l.names l.name l.other-index
