-- The descriptors that a configuration may need.
use Rattle.std.specs.Prelude.{ℕ, ◌+◌, ◌*◌, Option, Some, None}
use Rattle.proxy_config.specs.declared.config.Config.{Config}
use Rattle.proxy_config.specs.declared.point.ServicePoint.{ServicePoint}
use Rattle.proxy_commands.specs.declared.descriptors.TheConstants.{OF_A_THREAD, OF_THE_PROGRAM}

-- the most connections to a point's service
abbrev pub connections_of : Option ServicePoint → ℕ
connections_of None = 0
connections_of (Some service) = service.connections

-- three for each row of each thread, of a user, its origin and its service; the services' idle connections, and each thread's to
-- origins; and what threads and program have beside them
abbrev pub descriptors_of : Config → ℕ
descriptors_of config =
    config.shards * config.rows * 3 + (connections_of config.reqmod + connections_of config.respmod)
    + config.shards * config.keep_origins + config.shards * OF_A_THREAD + OF_THE_PROGRAM
