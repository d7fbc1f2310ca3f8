-- A turn at the head of the origin's response leads where it says.
use Rattle.shard_exchange.proofs.exchange.Exchange.read_response.Goals as goal

pub returns-clause-read : goal.returns-clause-read
returns-clause-read g c = record {
  turned = c.read_response-turn.new.self;
  turn = c.read_response-turn.result;
  brought = c.read_response-turn.ensures.hears;
  kept = c.take_turn.ensures.kept;
  leads = c.take_turn.ensures.leads;
}
