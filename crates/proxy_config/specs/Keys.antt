-- The keys of a configuration: one row a key, in the order in which they are judged.
use Rattle.std.specs.Prelude.{◌≡◌, ℕ, List, [], ◌∷◌, ◌++◌, map, Bool, true, false, Option, Some, codes, option_map, string_bytes}
use Rattle.std.specs.declared.net.socket_addr.SocketAddrV4.{SocketAddrV4}
use Rattle.toml.specs.Data.{Members, get_member}
use Rattle.adapt_bytes.specs.declared.limits.TheConstants.{MAX_ALLOW_LIMIT, MAX_PREVIEW, MAX_WINDOW}
use Rattle.span_bank.specs.declared.limits.TheConstants.{MAX_CAPACITY, MAX_ROWS}
use Rattle.proxy_config.specs.declared.limits.TheConstants.{MAX_SHARDS}
use Rattle.proxy_config.specs.declared.config.Config.{Config}
use Rattle.proxy_config.specs.declared.dial.Dial.{Dial}
use Rattle.proxy_config.specs.declared.host_table.Hosts.{Hosts}
use Rattle.proxy_config.specs.declared.network.Network.{Network}
use Rattle.proxy_config.specs.declared.point.ServicePoint.{ServicePoint}
use Rattle.proxy_config.specs.Values.{number_at, truth_or, HasAddress}
use Rattle.proxy_config.specs.Ports.{IsAdmin, IsMetrics}
use Rattle.proxy_config.specs.FilePath.{path_or_none}
use Rattle.proxy_config.specs.Dial.{dial_or}
use Rattle.proxy_config.specs.TurnSize.{turn_at}
use Rattle.proxy_config.specs.HostNames.{IsHostsOf, IsHostFault}
use Rattle.proxy_config.specs.Carry.{carry_or}
use Rattle.proxy_config.specs.Networks.{SaysNetworks, SaysNetworksOrNone}
use Rattle.proxy_config.specs.Parent.{IsParent, IsParentFault}
use Rattle.proxy_config.specs.Services.{IsServiceOf, IsServiceFault}

-- what the value of a key may be; a number has a range, and like a truth value a default
pub data Kind : Type 0 where
  number : (low high default : ℕ) → Kind
  truth : (default : Bool) → Kind
  address : Kind
  admin_address : Kind
  metrics_address : Kind
  file_path : Kind
  user_networks : Kind
  denied_networks : Kind
  field_names : Kind
  dial_time : Kind
  turn_size : Kind
  host_table : Kind
  service : Kind
  parent_proxy : Kind

-- the values of a kind
abbrev pub ValueOf : Kind → Type 0
ValueOf (number low high default) = ℕ
ValueOf (truth default) = Bool
ValueOf address = SocketAddrV4
ValueOf admin_address = SocketAddrV4
ValueOf metrics_address = Option SocketAddrV4
ValueOf file_path = Option (List ℕ)
ValueOf user_networks = Option (List Network)
ValueOf denied_networks = List Network
ValueOf field_names = List (List ℕ)
ValueOf dial_time = Dial
ValueOf turn_size = ℕ
ValueOf host_table = Hosts
ValueOf service = Option ServicePoint
ValueOf parent_proxy = Option SocketAddrV4

-- the value that a document says for a key, its default where the key is missing
abbrev pub Says : (kind : Kind) → List ℕ → Members → ValueOf kind → Type 0
Says (number low high default) name document value = number_at name low high default document ≡ Some value
Says (truth default) name document value = truth_or default (get_member name document) ≡ Some value
Says address name document value = HasAddress name document value
Says admin_address name document value = IsAdmin document value
Says metrics_address name document value = IsMetrics document value
Says file_path name document value = path_or_none (get_member name document) ≡ Some value
Says user_networks name document value = SaysNetworks name document value
Says denied_networks name document value = SaysNetworksOrNone name document value
Says field_names name document value = carry_or (get_member name document) ≡ Some value
Says dial_time name document value = dial_or (get_member name document) ≡ Some value
Says turn_size name document value = turn_at document ≡ Some value
Says host_table name document value = IsHostsOf document value
Says service name document value = IsServiceOf name document value
Says parent_proxy name document value = IsParent document value

-- a key is good where the document says a value for it
abbrev pub IsGood : Kind → List ℕ → Members → Type 0
IsGood kind name document = (value : ValueOf kind) × Says kind name document value

-- the key at fault where a key isn't good: this one, or one in its table
abbrev pub IsFaultOf : Kind → List ℕ → Members → List ℕ → Type 0
IsFaultOf host_table name document found = IsHostFault document found
IsFaultOf service name document found = IsServiceFault name document found
IsFaultOf parent_proxy name document found = IsParentFault document found
IsFaultOf kind name document found = (IsGood kind name document → ⊥) × (found ≡ name)

-- a key: its name, the kind of its value, its value in a configuration, and whether it can't change while the proxy runs
pub record Row : Type 0 where
  pub name : List ℕ
  pub kind : Kind
  pub value_in : Config → ValueOf kind
  pub is_fixed : Bool

-- a key that can't change while the proxy runs
abbrev pub fixed : List ℕ → (kind : Kind) → (Config → ValueOf kind) → Row
fixed name kind value_in = record { name = name; kind = kind; value_in = value_in; is_fixed = true }

-- a key that can
abbrev pub live : List ℕ → (kind : Kind) → (Config → ValueOf kind) → Row
live name kind value_in = record { name = name; kind = kind; value_in = value_in; is_fixed = false }

-- what is said of a key whose value is a whole number: its name, its range, the number where it is missing, and whether it can't change
-- while the proxy runs
pub record NumberRule : Type 0 where
  pub name : List ℕ
  pub low : ℕ
  pub high : ℕ
  pub default : ℕ
  pub is_fixed : Bool

-- such a key, and its number in a configuration
pub record NumberRow : Type 0 where
  pub rule : NumberRule
  pub value_in : Config → ℕ

-- a number that can't change while the proxy runs
abbrev pub fixed_number : List ℕ → (low high default : ℕ) → (Config → ℕ) → NumberRow
fixed_number name low high default value_in =
    record { rule = record { name = name; low = low; high = high; default = default; is_fixed = true }; value_in = value_in }

-- a number that can
abbrev pub live_number : List ℕ → (low high default : ℕ) → (Config → ℕ) → NumberRow
live_number name low high default value_in =
    record { rule = record { name = name; low = low; high = high; default = default; is_fixed = false }; value_in = value_in }

-- the key among those of all kinds
abbrev pub of_number : NumberRow → Row
of_number row =
    let rule : NumberRule = row.rule in
    record { name = rule.name; kind = number rule.low rule.high rule.default; value_in = row.value_in; is_fixed = rule.is_fixed }

-- where users and the administrator connect
abbrev pub port_rows : List Row
port_rows =
    fixed (codes "listen") address (λ c. c.listen)
    ∷ fixed (codes "admin") admin_address (λ c. c.admin)
    ∷ []

-- how much there may be, and for how long without a moved byte
abbrev pub size_rows : List NumberRow
size_rows =
    fixed_number (codes "shards") 1 MAX_SHARDS 2 (λ c. c.shards)
    ∷ live_number (codes "capacity") 1 MAX_CAPACITY 16777216 (λ c. c.capacity)
    ∷ fixed_number (codes "rows") 1 MAX_ROWS 256 (λ c. c.rows)
    ∷ fixed_number (codes "journal") 1 65536 1024 (λ c. c.journal)
    ∷ live_number (codes "deadline") 1 3600 60 (λ c. c.deadline)
    ∷ fixed_number (codes "preview_limit") 0 MAX_PREVIEW 1024 (λ c. c.preview_limit)
    ∷ fixed_number (codes "allow_limit") 0 MAX_ALLOW_LIMIT 65536 (λ c. c.allow_limit)
    ∷ fixed_number (codes "window") 1 MAX_WINDOW 8192 (λ c. c.window)
    ∷ []

-- whether a message is sent again
abbrev pub retry_rows : List Row
retry_rows =
    fixed (codes "retry") (truth true) (λ c. c.retry)
    ∷ []

-- how long an exchange waits for a connection
abbrev pub wait_rows : List NumberRow
wait_rows =
    live_number (codes "wait") 0 3600 0 (λ c. c.wait)
    ∷ []

-- what is told of messages
abbrev pub told_rows : List Row
told_rows =
    fixed (codes "log") file_path (λ c. option_map string_bytes c.log)
    ∷ fixed (codes "log_query") (truth true) (λ c. c.log_query)
    ∷ fixed (codes "metrics") metrics_address (λ c. c.metrics)
    ∷ []

-- the keys of messages
abbrev pub message_rows : List Row
message_rows = retry_rows ++ (map of_number wait_rows ++ told_rows)

-- where users may come from, and where requests may go
abbrev pub network_rows : List Row
network_rows =
    live (codes "users") user_networks (λ c. option_map (λ networks. networks.items) c.users)
    ∷ live (codes "denied") denied_networks (λ c. c.denied.items)
    ∷ []

-- how many connections one address of users may have
abbrev pub crowd_rows : List NumberRow
crowd_rows =
    fixed_number (codes "user_connections") 0 4096 0 (λ c. c.user_connections)
    ∷ []

-- which headers and fields say more of a user, and where further host names are
abbrev pub header_rows : List Row
header_rows =
    live (codes "client_ip") (truth false) (λ c. c.client_ip)
    ∷ fixed (codes "carry") field_names (λ c. map string_bytes c.carry.items)
    ∷ fixed (codes "proxy_protocol") (truth false) (λ c. c.proxy_protocol)
    ∷ live (codes "hosts_file") file_path (λ c. option_map string_bytes c.hosts_file)
    ∷ []

-- who may use the proxy, and where requests may go
abbrev pub entrance_rows : List Row
entrance_rows = network_rows ++ (map of_number crowd_rows ++ header_rows)

-- which connections to origins are kept
abbrev pub kept_rows : List NumberRow
kept_rows =
    fixed_number (codes "keep_origins") 0 1024 0 (λ c. c.keep_origins)
    ∷ fixed_number (codes "origin_idle") 1 3600 30 (λ c. c.origin_idle)
    ∷ []

-- when a connection to an origin is opened, and how many bytes a turn moves
abbrev pub turn_rows : List Row
turn_rows =
    fixed (codes "dial") dial_time (λ c. c.dial)
    ∷ fixed (codes "turn") turn_size (λ c. c.turn)
    ∷ []

-- the keys of connections to origins, and of turns
abbrev pub origin_rows : List Row
origin_rows = map of_number kept_rows ++ turn_rows

-- how long connections to services lie idle, what heads and new connections may take, and when a service is paused
abbrev pub time_rows : List NumberRow
time_rows =
    fixed_number (codes "service_idle") 0 3600 60 (λ c. c.service_idle)
    ∷ fixed_number (codes "options_ttl") 0 2147483648 0 (λ c. c.options_ttl)
    ∷ fixed_number (codes "head_deadline") 0 3600 0 (λ c. c.head_deadline)
    ∷ fixed_number (codes "connect_deadline") 0 3600 0 (λ c. c.connect_deadline)
    ∷ fixed_number (codes "service_failures") 0 1024 0 (λ c. c.service_failures)
    ∷ fixed_number (codes "service_pause") 1 3600 30 (λ c. c.service_pause)
    ∷ []

-- what refusals say
abbrev pub page_rows : List Row
page_rows =
    live (codes "refusal_pages") file_path (λ c. option_map string_bytes c.refusal_pages)
    ∷ []

-- where requests and messages go
abbrev pub place_rows : List Row
place_rows =
    live (codes "hosts") host_table (λ c. c.hosts)
    ∷ fixed (codes "reqmod") service (λ c. c.reqmod)
    ∷ fixed (codes "respmod") service (λ c. c.respmod)
    ∷ fixed (codes "parent") parent_proxy (λ c. c.parent)
    ∷ []

-- all keys, in the order in which they are judged
abbrev pub table : List Row
table =
    port_rows
    ++ (map of_number size_rows
    ++ (message_rows ++ (entrance_rows ++ (origin_rows ++ (map of_number time_rows ++ (page_rows ++ place_rows))))))

-- the names of the keys
abbrev pub document_keys : List (List ℕ)
document_keys = map (λ row. row.name) table
