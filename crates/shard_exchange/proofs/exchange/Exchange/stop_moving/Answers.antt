-- A message that moves ends as one that the stop ends, and then its origin's connection closes.
use Rattle.exchange_core.proofs.Stepping.{goes_on}
use Rattle.shard_exchange.proofs.exchange.Exchange.stop_moving.Goals as goal

pub returns-clause-goes : goal.returns-clause-goes
returns-clause-goes g c = goes_on _ _ _ c.settle.ensures.goes c.leave_origin.ensures.goes

pub returns-clause-ended : goal.returns-clause-ended
returns-clause-ended g c = (
  c.settle.new.self.course,
  (c.settle.new.self.holdings, c.settle.ensures.ended),
  c.leave_origin.ensures.left,
)
