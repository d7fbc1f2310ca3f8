-- The parts of a request's target that say where it goes and how it is offered (RFC 9112, section 3.2.2; RFC 3986, section 3.2).
use Rattle.std.specs.Prelude.{ℕ, ◌+◌, Bool, ◌||◌, ◌&&◌, List, [], ◌∷◌, drop, take, Option, Some, None, slice_index, if◌then◌else◌, ◌==◌}
use Rattle.std.specs.Prelude.{nat_le, nat_lt}
use Rattle.adapt_bytes.specs.declared.limits.TheConstants.{MAX_PORT}
use Rattle.http_side.specs.Lengths.{length_value}
use Rattle.http_side.specs.Targets.{count_before, before, from, is_delimiter}

-- the byte is one of these
abbrev pub is_any : ℕ → ℕ → ℕ → ℕ → Bool
is_any first second third b = (b == first) || ((b == second) || (b == third))

-- `?` or `#`
abbrev pub ends_path : ℕ → Bool
ends_path = is_any 63 63 35

-- the path of an `http://` target, without its query and its fragment
abbrev pub bare_path : List ℕ → List ℕ
bare_path target = before ends_path (from is_delimiter (drop 7 target))

-- `:` and `]`
abbrev pub is_colon : ℕ → Bool
is_colon = is_any 58 58 58

abbrev pub is_closing : ℕ → Bool
is_closing = is_any 93 93 93

-- How many bytes of an authority without a user are its host: those before the first colon. An address in brackets has colons of
-- its own, and keeps its brackets.
abbrev pub host_len : List ℕ → ℕ
host_len authority = if slice_index authority 0 == 91 then count_before is_closing authority + 1 else count_before is_colon authority

abbrev pub host_of : List ℕ → List ℕ
host_of authority = take (host_len authority) authority

-- a port lies between 1 and 65,535
abbrev pub port_number : Option ℕ → Option ℕ
port_number None = None
port_number (Some n) = if nat_lt 0 n && nat_le n MAX_PORT then Some n else None

-- after the host: nothing, or a colon and the port's digits, if any
abbrev pub port_in : List ℕ → Option ℕ
port_in [] = None
port_in (b ∷ digits) = port_number (length_value digits)

abbrev pub port_of : List ℕ → Option ℕ
port_of authority = port_in (drop (host_len authority) authority)
