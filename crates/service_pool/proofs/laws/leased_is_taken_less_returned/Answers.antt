-- After allowed steps, also in a sound journal, the leased are those of the base and of the takes, less the returns.
use Rattle.service_pool.proofs.HistoryLemmas.{leased-replay, leased-sound}
use Rattle.service_pool.proofs.laws.leased_is_taken_less_returned.Goals as goal

pub returns-clause-lists : goal.returns-clause-lists
returns-clause-lists c = leased-replay

pub returns-clause-states : goal.returns-clause-states
returns-clause-states c = leased-sound
