-- Where the services are.
use Rattle.std.specs.Prelude.{Option, option_map}
use Rattle.std.specs.declared.net.socket_addr.SocketAddrV4.{SocketAddrV4}
use Rattle.trace_core.specs.declared.history.Point.{Point}
use Rattle.proxy_config.specs.declared.config.Config.{Config}
use Rattle.shard_message.specs.Planning.{service_of}

-- the address of a point's service, if it has one
abbrev pub place_at : Config → Point → Option SocketAddrV4
place_at config point = option_map (λ service. service.address) (service_of config point)
