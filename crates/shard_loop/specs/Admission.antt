-- Which users a connection's own address lets in: all, where each connection begins with a header that says where it comes from.
use Rattle.std.specs.Prelude.{◌≡◌, ℕ, Bool, Option, not, is_some, if◌then◌else◌}
use Rattle.event_loop.specs.declared.live.LatestConfig.{LatestConfig}
use Rattle.proxy_config.specs.declared.config.Config.{Config}

-- users are let in by the configuration that stands, or by none where all are
abbrev pub HasUsers : Config → Option LatestConfig → Type 0
HasUsers config users = is_some users ≡ not config.proxy_protocol

-- how many may come from one address; 0 where there is no such limit
abbrev pub most_by : Config → ℕ
most_by config = if config.proxy_protocol then 0 else config.user_connections
