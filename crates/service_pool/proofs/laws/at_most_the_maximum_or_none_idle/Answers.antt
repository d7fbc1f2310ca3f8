-- Allowed steps keep at most the maximum open or none idle, and so it is in every sound journal.
use Rattle.service_pool.proofs.HistoryLemmas.{within-replay}
use Rattle.service_pool.proofs.laws.at_most_the_maximum_or_none_idle.Goals as goal

pub returns-clause-lists : goal.returns-clause-lists
returns-clause-lists c = within-replay

pub returns-clause-states : goal.returns-clause-states
returns-clause-states c j sound = sound.bounded.within
