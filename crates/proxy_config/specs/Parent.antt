-- The parent proxy, and which key of its table is at fault.
use Rattle.std.specs.Prelude.{◌≡◌, ◌⊎◌, ℕ, List, Option, Some, None, codes, MatchOption, option_and_then}
use Rattle.std.specs.declared.net.socket_addr.SocketAddrV4.{SocketAddrV4}
use Rattle.std.specs.Net.Grammar.{IsIpv4Text}
use Rattle.std.specs.Net.Socket.{v4_ip, v4_port}
use Rattle.toml.specs.Data.{Members, get_member, as_table}
use Rattle.adapt_bytes.specs.declared.limits.TheConstants.{MAX_PORT}
use Rattle.proxy_config.specs.Order.{FirstOf, ValueFirst, nested}
use Rattle.proxy_config.specs.Reach.{Reaches}
use Rattle.proxy_config.specs.Services.{HasHost, text_at}
use Rattle.proxy_config.specs.Values.{number_in, HasAddress}

-- the port, which has no default
abbrev pub parent_port : Members → Option ℕ
parent_port table = option_and_then (number_in 1 MAX_PORT) (get_member (codes "port") table)

-- the table says that the parent is at this address
pub record IsParentAt (table : Members) (address : SocketAddrV4) : Type 0 where
  pub text : List ℕ
  pub host : text_at (codes "host") table ≡ Some text
  pub ip : IsIpv4Text text (v4_ip address)
  pub port : parent_port table ≡ Some (v4_port address)

-- a connection to the address comes to the listener of a key
abbrev pub ReachesKey : List ℕ → Members → SocketAddrV4 → Type 0
ReachesKey key document address = (own : SocketAddrV4) × HasAddress key document own × Reaches address own

-- the address is the proxy itself: its port of users, of the administrator or of the counters
abbrev pub IsProxy : Members → SocketAddrV4 → Type 0
IsProxy document address = ReachesKey (codes "listen") document address
    ⊎ (ReachesKey (codes "admin") document address ⊎ ReachesKey (codes "metrics") document address)

-- the document's table says where the parent is
abbrev pub HasParentAt : Members → SocketAddrV4 → Type 0
HasParentAt document address = (table : Members)
    × (option_and_then as_table (get_member (codes "parent") document) ≡ Some table) × IsParentAt table address

-- there is no parent; or one, which isn't the proxy itself
abbrev pub IsParent : Members → Option SocketAddrV4 → Type 0
IsParent document found = MatchOption found
    (get_member (codes "parent") document ≡ None)
    (λ address. HasParentAt document address × (IsProxy document address → ⊥))

-- the first key at fault of the table
abbrev pub IsFirstOfParent : Members → List ℕ → Type 0
IsFirstOfParent table key =
    FirstOf (codes "host") (HasHost table) (HasHost table → ⊥) (ValueFirst (codes "port") (parent_port table) ⊥ key) key

-- the key at fault is that of the table
abbrev pub IsInParent : Members → List ℕ → Type 0
IsInParent table key = (inner : List ℕ) × IsFirstOfParent table inner × (key ≡ nested (codes "parent") inner)

-- the table says an address, which is the proxy itself
abbrev pub IsItsOwnParent : Members → Members → Type 0
IsItsOwnParent document table = (address : SocketAddrV4) × IsParentAt table address × IsProxy document address

-- the key at fault of a parent: `parent` where it is no table, else the first in its table, and `parent` where it is the proxy itself
abbrev pub IsParentFault : Members → List ℕ → Type 0
IsParentFault document key = MatchOption (get_member (codes "parent") document) ⊥
    (λ value. MatchOption (as_table value)
    (key ≡ codes "parent")
    (λ table. IsInParent table key ⊎ (IsItsOwnParent document table × (key ≡ codes "parent"))))
