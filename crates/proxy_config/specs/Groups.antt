-- Keys that are read together: what a configuration has of them.
use Rattle.std.specs.Prelude.{◌≡◌, List}
use Rattle.toml.specs.Data.{Members}
use Rattle.proxy_config.specs.Config.{AreSaid}
use Rattle.proxy_config.specs.Keys.{Row}
use Rattle.proxy_config.specs.declared.config.Config.{Config}
use Rattle.proxy_config.specs.declared.entrance.Entrance.{Entrance}
use Rattle.proxy_config.specs.declared.origins.Origins.{Origins}
use Rattle.proxy_config.specs.declared.places.Places.{Places}

-- a configuration has these values of the keys of entrance
abbrev pub HasEntrance : Config → Entrance → Type 0
HasEntrance c e = (c.users ≡ e.users) × (c.denied ≡ e.denied) × (c.user_connections ≡ e.user_connections) × (c.client_ip ≡ e.client_ip)
    × (c.carry ≡ e.carry) × (c.proxy_protocol ≡ e.proxy_protocol) × (c.hosts_file ≡ e.hosts_file)

-- and these of the keys of origins
abbrev pub HasOrigins : Config → Origins → Type 0
HasOrigins c o = (c.keep_origins ≡ o.keep_origins) × (c.origin_idle ≡ o.origin_idle) × (c.dial ≡ o.dial) × (c.turn ≡ o.turn)

-- and these of the keys of places
abbrev pub HasPlaces : Config → Places → Type 0
HasPlaces c p = (c.hosts ≡ p.hosts) × (c.reqmod ≡ p.reqmod) × (c.respmod ≡ p.respmod) × (c.parent ≡ p.parent)

-- each configuration that has these values has what the document says for the keys of these rows
abbrev pub AreSaidOf : {G : Type 0} → (Config → G → Type 0) → List Row → Members → G → Type 0
AreSaidOf Has rows document group = (config : Config) → Has config group → AreSaid rows document config
