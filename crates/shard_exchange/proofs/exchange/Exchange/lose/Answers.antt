-- The message of a lost user ends, and leaves its queue, before all that is held goes back.
use Rattle.exchange_core.proofs.Stepping.{goes_on}
use Rattle.shard_exchange.proofs.exchange.Exchange.lose.Goals as goal

pub returns-clause-goes : goal.returns-clause-goes
returns-clause-goes g c = goes_on _ _ _ c.lose_message.ensures.goes c.free.ensures.goes

pub returns-clause-left : goal.returns-clause-left
returns-clause-left g c = λ point queued out none. c.lose_message.ensures.left point queued

-- the message ended before what is held went back
pub returns-clause-lost : goal.returns-clause-lost
returns-clause-lost g c = record {
  mid = c.lose_message.new.self.course;
  moved = λ moving. (c.lose_message.new.self.holdings, c.lose_message.ensures.ended moving);
  unmoved = c.lose_message.ensures.unmoved;
  back = c.free.ensures.back;
}
