-- Ports that are listened on, of which no two may be the same.
use Rattle.std.specs.Prelude.{◌≡◌, ◌⊎◌, List, ℕ, Option, None, MatchOption, codes}
use Rattle.std.specs.Net.Addr.{IsUnspecifiedV4}
use Rattle.std.specs.Net.Socket.{v4_ip, v4_port}
use Rattle.std.specs.declared.net.socket_addr.SocketAddrV4.{SocketAddrV4}
use Rattle.toml.specs.Data.{Members, get_member}
use Rattle.proxy_config.specs.Values.{HasAddress}

-- only one of them can be listened on: they have one port, and one address, or one of them stands for all addresses
abbrev pub SharesPort : SocketAddrV4 → SocketAddrV4 → Type 0
SharesPort one other = (v4_port one ≡ v4_port other)
    × ((v4_ip one ≡ v4_ip other) ⊎ (IsUnspecifiedV4 (v4_ip one) ⊎ IsUnspecifiedV4 (v4_ip other)))

-- an address shares no port with that of a key
abbrev pub IsApart : List ℕ → Members → SocketAddrV4 → Type 0
IsApart key document address = (other : SocketAddrV4) → HasAddress key document other → SharesPort other address → ⊥

-- where the administrator connects: not where users do
abbrev pub IsAdmin : Members → SocketAddrV4 → Type 0
IsAdmin document address = HasAddress (codes "admin") document address × IsApart (codes "listen") document address

-- the document says where the administrator connects
abbrev pub HasAdmin : Members → Type 0
HasAdmin document = (address : SocketAddrV4) × IsAdmin document address

-- where the counters are asked for, if anywhere: not where users or the administrator connect
abbrev pub IsMetrics : Members → Option SocketAddrV4 → Type 0
IsMetrics document found = MatchOption found
    (get_member (codes "metrics") document ≡ None)
    (λ address. HasAddress (codes "metrics") document address × IsApart (codes "listen") document address
    × IsApart (codes "admin") document address)

-- the document says where, or that they aren't
abbrev pub HasMetrics : Members → Type 0
HasMetrics document = (found : Option SocketAddrV4) × IsMetrics document found
