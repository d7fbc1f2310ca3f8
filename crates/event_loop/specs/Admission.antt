-- Who may connect as a user.
use Rattle.std.specs.Prelude.{◌≡◌, ◌⊎◌, List, Option, Some, None, ⊤, option_map}
use Rattle.std.specs.Arc.{arc_value}
use Rattle.std.specs.declared.net.socket_addr.SocketAddr.{SocketAddr}
use Rattle.std.specs.declared.net.socket_addr.SocketAddr.TheVariants.{V4, V6}
use Rattle.std.specs.declared.net.ipv4_addr.Ipv4Addr.{Ipv4Addr}
use Rattle.std.specs.Net.Addr.{IsUnspecifiedV4}
use Rattle.std.specs.Net.Socket.{v4_ip}
use Rattle.event_loop.specs.declared.listening.Accepted.{Accepted}
use Rattle.event_loop.specs.declared.listening.Accepted.TheVariants.{One, Gone, None as NoOne, Rest}
use Rattle.mio.specs.declared.net.stream.TcpStream.{TcpStream}
use Rattle.proxy_config.specs.Networks.{MayUse}
use Rattle.proxy_config.specs.declared.network.Network.{Network}
use Rattle.event_loop.specs.declared.live.LatestConfig.{LatestConfig}

-- a user may connect from the address: by its IPv4 address; one without may where users come from everywhere
abbrev pub MayConnect : Option (List Network) → SocketAddr → Type 0
MayConnect networks (V4 from) = MayUse networks (v4_ip from)
MayConnect None (V6 from) = ⊤
MayConnect (Some networks) (V6 from) = ⊥

-- the IPv4 address that a connection comes from: the unspecified one where it has none
abbrev pub IsIpOf : SocketAddr → Ipv4Addr → Type 0
IsIpOf (V4 from) ip = ip ≡ v4_ip from
IsIpOf (V6 from) ip = IsUnspecifiedV4 ip

-- a connection is handed on if a user may connect from where it comes, and is gone if none may; all else stays
abbrev pub IsJudged : Option (List Network) → (was is : Accepted) → Type 0
IsJudged networks (One stream from) is =
    (MayConnect networks from × (is ≡ One stream from)) ⊎ ((MayConnect networks from → ⊥) × (is ≡ Gone))
IsJudged networks Gone is = is ≡ Gone
IsJudged networks NoOne is = is ≡ NoOne
IsJudged networks Rest is = is ≡ Rest

-- a connection that is handed on has waited already, or is one of a user who may connect from where it comes
abbrev pub IsLetIn : Option (List Network) → (waiting : Option (TcpStream × SocketAddr)) → Accepted → Type 0
IsLetIn networks waiting (One stream from) = (waiting ≡ Some (stream, from)) ⊎ MayConnect networks from
IsLetIn networks waiting Gone = ⊤
IsLetIn networks waiting NoOne = ⊤
IsLetIn networks waiting Rest = ⊤

-- the networks that users may come from by the configuration that a thread knows; None where they may come from everywhere
abbrev pub networks_of : Option LatestConfig → Option (List Network)
networks_of None = None
networks_of (Some latest) = option_map (λ vec. vec.items) (arc_value latest.dated.config).users
