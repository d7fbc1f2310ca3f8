-- A connection is laid down where the configuration lets one lie idle and it was found quiet, and is closed else.
use Rattle.shard_desk.proofs.Asking.{puts_by, puts_within}
use Rattle.shard_desk.proofs.connections.put_back.Goals as goal

pub returns : goal.returns
returns g c = (
  c.pools_of.ensures.idle.0,
  c.pools_of.ensures.idle.1,
  puts_within c.pools_of.ensures.idle.2 (puts_by _ c.berth_of-berth.result.asked _ c.berth_of-berth.ensures c.put.ensures.asked),
)
