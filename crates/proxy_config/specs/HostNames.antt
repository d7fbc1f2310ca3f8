-- The host names of a document, and which of them is at fault.
use Rattle.std.specs.Prelude.{◌≡◌, ℕ, ◌⊎◌, ◌↔◌, List, [], Bool, Contains, All, ◌||◌, String, string_bytes, Option, Some, None, IsTrue}
use Rattle.std.specs.Prelude.{codes, MatchOption}
use Rattle.std.specs.Str.{str_eq_ignore_ascii_case, str_to_ascii_lowercase}
use Rattle.std.specs.BTreeSet.{BTreeSet, contains_text}
use Rattle.std.specs.declared.alloc.Global.{Global}
use Rattle.std.specs.declared.net.socket_addr.SocketAddrV4.{SocketAddrV4}
use Rattle.toml.specs.Data.{Data, Members, no_members, get_member, as_table}
use Rattle.proxy_config.specs.Values.{HasAddress}
use Rattle.proxy_config.specs.Order.{HasKey, IsFirst, comes_before, nested}
use Rattle.proxy_config.specs.Hosts.{address_of_name}
use Rattle.proxy_config.specs.declared.host.Host.{Host}
use Rattle.proxy_config.specs.declared.host_table.Hosts.{Hosts}

-- the names that a value says: none where it is missing, and no table of names where it is no table
abbrev pub names_or_none : Option Data → Option Members
names_or_none None = Some no_members
names_or_none (Some value) = as_table value

-- the table of the document's host names
abbrev pub host_names : Members → Option Members
host_names document = names_or_none (get_member (codes "hosts") document)

-- a name before this one is the same but for ASCII case
abbrev pub IsRepeated : Members → List ℕ → Type 0
IsRepeated names name = (other : List ℕ) × HasKey names other × IsTrue (comes_before other name)
    × IsTrue (str_eq_ignore_ascii_case other name)

-- the value of the name is no address
abbrev pub HasNoAddress : Members → List ℕ → Type 0
HasNoAddress names name = (address : SocketAddrV4) → HasAddress name names address → ⊥

-- the table has the name, and it is repeated or has no address
abbrev pub IsBadName : Members → List ℕ → Type 0
IsBadName names name = HasKey names name × (IsRepeated names name ⊎ HasNoAddress names name)

-- the key at fault is that of the first bad name
abbrev pub IsInHosts : Members → List ℕ → Type 0
IsInHosts names key = (name : List ℕ) × IsFirst (IsBadName names) name × (key ≡ nested (codes "hosts") name)

-- the key at fault of the hosts: `hosts` itself where it is no table, else its first bad name
abbrev pub IsHostFault : Members → List ℕ → Type 0
IsHostFault document key = MatchOption (host_names document) (key ≡ codes "hosts") (λ names. IsInHosts names key)

-- no name is bad, each has a host, and each host is that of a name
pub record HasEach (names : Members) (hosts : List Host) : Type 0 where
  pub none_bad : (name : List ℕ) → IsBadName names name → ⊥
  pub each : (name : List ℕ) → HasKey names name → (host : Host) × Contains hosts host × (string_bytes host.name ≡ name)
  pub only : All (λ host. HasAddress (string_bytes host.name) names host.address) hosts

-- the table has a name that is this one but for ASCII case, with the address
abbrev pub IsHostAt : Members → List ℕ → SocketAddrV4 → Type 0
IsHostAt names name address = (written : List ℕ) × IsTrue (str_eq_ignore_ascii_case written name) × HasAddress written names address

-- the hosts are the document's: no name is bad, and each is found where the document says, and no other is; no hosts file is read
pub record IsHostsOf (document : Members) (hosts : Hosts) : Type 0 where
  pub names : Members
  pub are_names : host_names document ≡ Some names
  pub none_bad : (name : List ℕ) → IsBadName names name → ⊥
  pub found : (name : List ℕ) (address : SocketAddrV4)
      → (address_of_name name hosts.all.entries.items ≡ Some address) ↔ IsHostAt names name address
  pub no_file : hosts.file.entries.items ≡ []

-- whether a name was seen, ASCII case ignored
abbrev pub is_seen : BTreeSet (String Global) → List ℕ → Bool
is_seen seen name = contains_text seen (str_to_ascii_lowercase name)

-- after a name was marked it is seen, and so is what was seen before
abbrev pub Marks : List ℕ → BTreeSet (String Global) → BTreeSet (String Global) → Type 0
Marks name before after = (other : List ℕ) → is_seen after other ≡ (str_eq_ignore_ascii_case name other || is_seen before other)
