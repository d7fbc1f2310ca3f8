-- Which addresses are a listener's own: a connection to one comes to it.
use Rattle.std.specs.Prelude.{◌≡◌, ◌⊎◌}
use Rattle.std.specs.declared.net.ipv4_addr.Ipv4Addr.{Ipv4Addr}
use Rattle.std.specs.declared.net.socket_addr.SocketAddrV4.{SocketAddrV4}
use Rattle.std.specs.Net.Addr.{IsLoopbackV4, IsUnspecifiedV4}
use Rattle.std.specs.Net.Socket.{v4_ip, v4_port}

-- A connection to one address comes to a listener on the other: they are the same; or the first is 0.0.0.0, which a system takes for
-- itself; or it is an address of the loopback, 127.0.0.0/8 (RFC 1122, section 3.2.1.3), and the listener is on the loopback too, or on
-- 0.0.0.0, which is each address of the machine.
abbrev pub IsSameMachine : Ipv4Addr → Ipv4Addr → Type 0
IsSameMachine to on = (to ≡ on) ⊎ (IsUnspecifiedV4 to ⊎ (IsLoopbackV4 to × (IsLoopbackV4 on ⊎ IsUnspecifiedV4 on)))

-- the same, at the listener's port
abbrev pub Reaches : SocketAddrV4 → SocketAddrV4 → Type 0
Reaches to listener = (v4_port to ≡ v4_port listener) × IsSameMachine (v4_ip to) (v4_ip listener)
