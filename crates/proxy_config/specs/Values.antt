-- What single values of a TOML table say.
use Rattle.std.specs.Prelude.{◌≡◌, ◌≢◌, ◌≤◌, ℕ, ℤ, pos, negsuc, List, Bool, ◌&&◌, nat_le, if◌then◌else◌, Option, Some, None}
use Rattle.toml.specs.Data.{Data, integer, Members, get_member, as_bool, as_str}
use Rattle.std.specs.declared.net.socket_addr.SocketAddrV4.{SocketAddrV4}
use Rattle.std.specs.Net.Grammar.{IsSocketV4Text}
use Rattle.std.specs.Net.Socket.{v4_port}

-- the number lies in the range
abbrev pub IsWithin : (low high number : ℕ) → Type 0
IsWithin low high number = (low ≤ number) × (number ≤ high)

-- a whole number in the range
abbrev pub natural_in : ℕ → ℕ → ℤ → Option ℕ
natural_in low high (pos n) = if nat_le low n && nat_le n high then Some n else None
natural_in low high (negsuc n) = None

-- the whole number of a value, where it lies in the range
abbrev pub number_in : ℕ → ℕ → Data → Option ℕ
number_in low high (integer z) = natural_in low high z
number_in low high _ = None

-- the number that a key has: the default where the key is missing
abbrev pub number_or : ℕ → ℕ → ℕ → Option Data → Option ℕ
number_or low high default None = Some default
number_or low high default (Some value) = number_in low high value

-- the number of a key: the default where the key is missing, none where it is no whole number of the range
abbrev pub number_at : List ℕ → ℕ → ℕ → ℕ → Members → Option ℕ
number_at key low high default document = number_or low high default (get_member key document)

-- the truth value that a key has: the default where the key is missing
abbrev pub truth_or : Bool → Option Data → Option Bool
truth_or default None = Some default
truth_or default (Some value) = as_bool value

-- the value is the text of an IPv4 address and a port that isn't 0
abbrev pub IsAddress : Data → SocketAddrV4 → Type 0
IsAddress value address = (text : List ℕ) × (as_str value ≡ Some text) × IsSocketV4Text text address × (v4_port address ≢ 0)

-- the key has such a value
abbrev pub HasAddress : List ℕ → Members → SocketAddrV4 → Type 0
HasAddress key table address = (value : Data) × (get_member key table ≡ Some value) × IsAddress value address
