-- The origin's connection is used as the configuration and the course say.
use Rattle.shard_message.proofs.start.origin_use.Goals as goal

pub returns : goal.returns
returns g c = record { config = c.config.result.now; config_is_so = c.config.ensures; use_is = c.use_of.ensures }
