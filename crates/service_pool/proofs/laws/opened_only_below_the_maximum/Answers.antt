-- Only a take with none idle opens more, below the maximum; one is replaced only where at most the maximum are open.
use Rattle.service_pool.proofs.HistoryLemmas.{opened-by_take, opened-below, opened-sound, replaced-within}
use Rattle.service_pool.proofs.laws.opened_only_below_the_maximum.Goals as goal

pub returns-clause-by_a_take : goal.returns-clause-by_a_take
returns-clause-by_a_take c = opened-by_take

pub returns-clause-below : goal.returns-clause-below
returns-clause-below c = opened-below

pub returns-clause-states : goal.returns-clause-states
returns-clause-states c = opened-sound

pub returns-clause-replaced : goal.returns-clause-replaced
returns-clause-replaced c = replaced-within
