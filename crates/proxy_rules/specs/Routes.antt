-- Where a request goes: straight to the origin that its target names, or to the parent; never to the proxy itself, nor for an origin in a
-- network that is denied.
use Rattle.std.specs.Prelude.{◌≡◌, ◌⊎◌, ℕ, List, Option, Some, None}
use Rattle.std.specs.declared.net.socket_addr.SocketAddrV4.{SocketAddrV4}
use Rattle.std.specs.Net.Socket.{v4_ip}
use Rattle.http_side.specs.Targets.{authority_of}
use Rattle.http_side.specs.Heads.{RequestParts}
use Rattle.http_side.specs.declared.forward.NextServer.{NextServer}
use Rattle.http_side.specs.declared.forward.NextServer.TheVariants.{Origin, Parent}
use Rattle.proxy_config.specs.Hosts.{IsAt, IsLiteral, IsNamed}
use Rattle.proxy_config.specs.Networks.{IsInOne}
use Rattle.proxy_config.specs.Reach.{Reaches}
use Rattle.proxy_config.specs.declared.config.Config.{Config}
use Rattle.proxy_rules.specs.Origins.{host_of, port_of}
use Rattle.proxy_rules.specs.declared.route.Route.{Route}
use Rattle.proxy_rules.specs.declared.route.Unrouted.{Unrouted}
use Rattle.proxy_rules.specs.declared.route.Unrouted.TheVariants.{Unknown, Denied}

-- a connection to the address comes to the listener, if there is one
abbrev pub ReachesSome : SocketAddrV4 → Option SocketAddrV4 → Type 0
ReachesSome to None = ⊥
ReachesSome to (Some listener) = Reaches to listener

-- the users' port, the administrator's, or that of the counters
abbrev pub IsOwn : Config → SocketAddrV4 → Type 0
IsOwn config address =
    Reaches address config.listen ⊎ (Reaches address config.admin ⊎ ReachesSome address config.metrics)

-- the address is in a network to which no request is sent
abbrev pub IsDeniedAt : Config → SocketAddrV4 → Type 0
IsDeniedAt config address = IsInOne config.denied.items (v4_ip address)

-- a request may be sent for an origin at this address
pub record IsAllowed (config : Config) (address : SocketAddrV4) : Type 0 where
  pub other : IsOwn config address → ⊥
  pub spared : IsDeniedAt config address → ⊥

-- ---- by the host and the port of a request's target

-- straight to its origin, at this address: the table has the host; or the host is this address, and there is no parent
pub record GoesStraight (config : Config) (host : List ℕ) (port : Option ℕ) (address : SocketAddrV4) : Type 0 where
  pub at : IsNamed config.hosts host port address ⊎ (IsLiteral host port address × (config.parent ≡ None))
  pub allowed : IsAllowed config address

-- to the parent, at this address: the table lacks the host; one that is an address is allowed
pub record GoesToParent (config : Config) (host : List ℕ) (port : Option ℕ) (parent : SocketAddrV4) : Type 0 where
  pub parent_is : config.parent ≡ Some parent
  pub missing : (address : SocketAddrV4) → IsNamed config.hosts host port address → ⊥
  pub allowed : (address : SocketAddrV4) → IsLiteral host port address → IsAllowed config address

abbrev pub GoesNext : NextServer → Config → List ℕ → Option ℕ → SocketAddrV4 → Type 0
GoesNext Origin config host port address = GoesStraight config host port address
GoesNext Parent config host port address = GoesToParent config host port address

abbrev pub GoesBy : Config → List ℕ → Option ℕ → Route → Type 0
GoesBy config host port route = GoesNext route.next config host port route.address

-- the host is unknown: there is no address and no parent; or its address is the proxy's own
abbrev pub IsUnknown : Config → List ℕ → Option ℕ → Type 0
IsUnknown config host port = ((config.parent ≡ None) × ((address : SocketAddrV4) → IsAt config.hosts host port address → ⊥))
    ⊎ ((address : SocketAddrV4) × IsAt config.hosts host port address × IsOwn config address)

-- the host is at an address that is denied, and isn't the proxy's own
pub record IsDenied (config : Config) (host : List ℕ) (port : Option ℕ) : Type 0 where
  pub address : SocketAddrV4
  pub at : IsAt config.hosts host port address
  pub other : IsOwn config address → ⊥
  pub denied : IsDeniedAt config address

abbrev pub GoesNowhereBy : Config → List ℕ → Option ℕ → Unrouted → Type 0
GoesNowhereBy config host port Unknown = IsUnknown config host port
GoesNowhereBy config host port Denied = IsDenied config host port

-- ---- of a request

abbrev pub IsRoute : Config → RequestParts → Route → Type 0
IsRoute config user route = GoesBy config (host_of (authority_of user.target)) (port_of (authority_of user.target)) route

abbrev pub IsUnrouted : Config → RequestParts → Unrouted → Type 0
IsUnrouted config user why = GoesNowhereBy config (host_of (authority_of user.target)) (port_of (authority_of user.target)) why
