-- With no later limit, the maximum stays the one that a limit set.
use Rattle.service_pool.proofs.HistoryLemmas.{maximum-last}
use Rattle.service_pool.proofs.laws.maximum_is_the_last_one_set.Goals as goal

pub returns : goal.returns
returns c = maximum-last
