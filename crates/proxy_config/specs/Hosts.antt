-- Where a host of a request's target is (RFC 9110, section 7.3): the configuration says it, and no resolver is asked.
use Rattle.std.specs.Prelude.{◌≡◌, ℕ, ◌⊎◌, List, [], ◌∷◌, Option, Some, None, if◌then◌else◌, string_bytes}
use Rattle.std.specs.Str.{str_eq_ignore_ascii_case}
use Rattle.std.specs.declared.net.ipv4_addr.Ipv4Addr.{Ipv4Addr}
use Rattle.std.specs.declared.net.socket_addr.SocketAddrV4.{SocketAddrV4}
use Rattle.std.specs.Net.Grammar.{IsIpv4Text}
use Rattle.std.specs.Net.Socket.{v4_ip, v4_port}
use Rattle.proxy_config.specs.declared.hosts.TheConstants.{HTTP_PORT}
use Rattle.proxy_config.specs.declared.host.Host.{Host}
use Rattle.proxy_config.specs.declared.host_table.Hosts.{Hosts}

-- the address of the first entry with this name, ASCII case ignored
abbrev pub address_of_name : List ℕ → List Host → Option SocketAddrV4
address_of_name name [] = None
address_of_name name (host ∷ hosts) =
    if str_eq_ignore_ascii_case (string_bytes host.name) name then Some host.address else address_of_name name hosts

-- the first address, else the other
abbrev pub first_address : Option SocketAddrV4 → Option SocketAddrV4 → Option SocketAddrV4
first_address (Some address) other = Some address
first_address None other = other

-- the address of a name: that of the configured table, else that of the hosts file
abbrev pub found_host : Hosts → List ℕ → Option SocketAddrV4
found_host hosts name = first_address (address_of_name name hosts.all.entries.items) (address_of_name name hosts.file.entries.items)

-- the port that is written, else the other
abbrev pub port_or : ℕ → Option ℕ → ℕ
port_or other None = other
port_or other (Some port) = port

-- an IPv4 address stands for itself, with port 80 where none is written (RFC 9110, section 4.2.1)
pub record IsLiteral (host : List ℕ) (port : Option ℕ) (address : SocketAddrV4) : Type 0 where
  pub ip : IsIpv4Text host (v4_ip address)
  pub of_port : v4_port address ≡ port_or HTTP_PORT port

-- any other name is where the table or else the hosts file says, but for the port where the target has one
pub record IsNamed (hosts : Hosts) (host : List ℕ) (port : Option ℕ) (address : SocketAddrV4) : Type 0 where
  pub no_literal : (ip : Ipv4Addr) → IsIpv4Text host ip → ⊥
  pub entry : SocketAddrV4
  pub found : found_host hosts host ≡ Some entry
  pub ip : v4_ip address ≡ v4_ip entry
  pub of_port : v4_port address ≡ port_or (v4_port entry) port

-- the host and the port of a target are at this address
abbrev pub IsAt : Hosts → List ℕ → Option ℕ → SocketAddrV4 → Type 0
IsAt hosts host port address = IsLiteral host port address ⊎ IsNamed hosts host port address
