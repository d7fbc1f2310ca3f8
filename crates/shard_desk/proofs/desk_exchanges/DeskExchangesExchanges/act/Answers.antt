-- The exchange does its task at the desk, once the desk has taken up the configuration for it.
use Rattle.shard_desk.proofs.desk_exchanges.DeskExchangesExchanges.act.Goals as goal

-- the exchange does so at the desk, once that has taken the configuration up
pub returns : goal.returns
returns g c = record {
  over = c.act_on.ensures.over;
  lost = c.act_on.ensures.lost;
  does = λ steps. (c.take_up.new.self, c.act_on.ensures.does steps);
  rests = λ steps waits. (c.take_up.new.self, c.act_on.ensures.rests steps waits);
}
