-- A turn at the head of the user's request leads where it says.
use Rattle.shard_exchange.proofs.exchange.Exchange.read_request.Goals as goal

pub returns-clause-read : goal.returns-clause-read
returns-clause-read g c = record {
  turned = c.read_request-turn.new.self;
  turn = c.read_request-turn.result;
  brought = c.read_request-turn.ensures.reads;
  kept = c.take_request_turn.ensures.bears;
  whole = c.take_request_turn.ensures.whole;
  fresh = c.take_request_turn.ensures.fresh;
  leads = c.take_request_turn.ensures.leads;
}
