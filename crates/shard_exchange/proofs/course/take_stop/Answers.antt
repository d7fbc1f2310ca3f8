-- A request of whose head a part came fails of the stop first, and then takes the stop: both may come.
use Rattle.exchange_core.proofs.Stepping.{goes_on}
use Rattle.shard_exchange.proofs.course.take_stop.Goals as goal

pub returns-then-may-clause-goes : goal.returns-then-may-clause-goes
returns-then-may-clause-goes c = goes_on _ _ _ c.take.ensures.goes c.take-then-may.ensures.goes
