-- What a point's table says of its service, and which of its keys is at fault.
use Rattle.std.specs.Prelude.{◌≡◌, ◌==◌, ℕ, List, length, string_bytes, Bool, ◌&&◌, not, nat_le, nat_eq, IsTrue, Option, Some, None, codes}
use Rattle.std.specs.Prelude.{MatchOption, option_and_then}
use Rattle.std.specs.List.{list_any, starts_with}
use Rattle.std.specs.declared.net.ipv4_addr.Ipv4Addr.{Ipv4Addr}
use Rattle.toml.specs.Data.{Members, get_member, as_str, as_table}
use Rattle.std.specs.Net.Grammar.{IsIpv4Text}
use Rattle.std.specs.Net.Socket.{v4_ip, v4_port}
use Rattle.http_uri.specs.Uri.{Spells}
use Rattle.http_uri.specs.declared.uri.Uri.{Uri as Target}
use Rattle.adapt_bytes.specs.declared.limits.TheConstants.{MAX_CONNECTIONS, MAX_PORT}
use Rattle.proxy_config.specs.Order.{FirstOf, ValueFirst, nested}
use Rattle.proxy_config.specs.Values.{number_or}
use Rattle.proxy_config.specs.declared.services.TheConstants.{CONNECTIONS, MAX_PATH, PORT}
use Rattle.proxy_config.specs.declared.point.ServicePoint.{ServicePoint}

-- the text of a key, where its value is text
abbrev pub text_at : List ℕ → Members → Option (List ℕ)
text_at key table = option_and_then as_str (get_member key table)

-- at most 1,024 bytes, of which the first is `/` and none is `#`, which would begin a fragment
abbrev pub is_path_text : List ℕ → Bool
is_path_text path =
    nat_le (length path) MAX_PATH && starts_with nat_eq path (codes "/") && not (list_any (λ byte. byte == 35) path)

-- a path, and a query if there is one, that a URI may have (RFC 3986, sections 3.3 and 3.4)
pub record IsServicePath (path : List ℕ) : Type 0 where
  pub is_text : IsTrue (is_path_text path)
  pub uri : Target
  pub spells : Spells path uri

-- each key of a service: a host, which is an IPv4 address, a port, a path, and the most connections
abbrev pub HasHost : Members → Type 0
HasHost table = (text : List ℕ) × (ip : Ipv4Addr) × (text_at (codes "host") table ≡ Some text) × IsIpv4Text text ip

abbrev pub port_of : Members → Option ℕ
port_of table = number_or 1 MAX_PORT PORT (get_member (codes "port") table)

abbrev pub HasPath : Members → Type 0
HasPath table = (path : List ℕ) × (text_at (codes "path") table ≡ Some path) × IsServicePath path

abbrev pub connections_of : Members → Option ℕ
connections_of table = number_or 1 MAX_CONNECTIONS CONNECTIONS (get_member (codes "connections") table)

-- the table says this service
pub record IsServicePoint (table : Members) (service : ServicePoint) : Type 0 where
  pub host : text_at (codes "host") table ≡ Some (string_bytes service.host)
  pub ip : IsIpv4Text (string_bytes service.host) (v4_ip service.address)
  pub port : port_of table ≡ Some (v4_port service.address)
  pub path : text_at (codes "path") table ≡ Some (string_bytes service.path)
  pub good_path : IsServicePath (string_bytes service.path)
  pub connections : connections_of table ≡ Some service.connections

-- the point has no table, and no service; or a table, which says the service
abbrev pub IsServiceOf : List ℕ → Members → Option ServicePoint → Type 0
IsServiceOf point document found = MatchOption found
    (get_member point document ≡ None)
    (λ service. (table : Members) × (option_and_then as_table (get_member point document) ≡ Some table) × IsServicePoint table service)

-- the point has a service, or no table
abbrev pub HasServiceOf : List ℕ → Members → Type 0
HasServiceOf point document = (found : Option ServicePoint) × IsServiceOf point document found

-- the first key at fault of a service's table
abbrev pub IsFirstOfService : Members → List ℕ → Type 0
IsFirstOfService table key =
    FirstOf (codes "host") (HasHost table) (HasHost table → ⊥) (
    ValueFirst (codes "port") (port_of table) (
    FirstOf (codes "path") (HasPath table) (HasPath table → ⊥) (
    ValueFirst (codes "connections") (connections_of table) ⊥ key) key) key) key

-- the key at fault is that of the point's table
abbrev pub IsInService : List ℕ → Members → List ℕ → Type 0
IsInService point table key = (inner : List ℕ) × IsFirstOfService table inner × (key ≡ nested point inner)

-- the key at fault of a point: the point itself where it is no table, else the first in its table
abbrev pub IsServiceFault : List ℕ → Members → List ℕ → Type 0
IsServiceFault point document key = MatchOption (get_member point document) ⊥
    (λ value. MatchOption (as_table value) (key ≡ point) (λ table. IsInService point table key))
