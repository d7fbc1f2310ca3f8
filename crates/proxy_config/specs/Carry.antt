-- Which fields of a service's answer go on with the next request: what a key says of that.
use Rattle.std.specs.Prelude.{ℕ, Bool, ◌&&◌, not, nat_lt, List, [], ◌∷◌, ◌++◌, length, codes, if◌then◌else◌, Option, Some, None}
use Rattle.std.specs.Prelude.{option_and_then}
use Rattle.std.specs.List.{list_all}
use Rattle.adapt_bytes.specs.Text.{is_among, is_token_byte}
use Rattle.toml.specs.Data.{Data, Items, no_items, item, as_array, as_str}
use Rattle.proxy_config.specs.declared.carry.TheConstants.{MAX_CARRIED}

-- a token (RFC 9110, section 5.1)
abbrev pub is_field_name : List ℕ → Bool
is_field_name name = nat_lt 0 (length name) && list_all is_token_byte name

-- the proxy writes such a field itself (RFC 3507, sections 4.3.2 and 4.4 to 4.6)
abbrev pub is_own : List ℕ → Bool
is_own name = is_among (codes "Host" ∷ codes "X-Client-IP" ∷ codes "Allow" ∷ codes "Preview" ∷ codes "Encapsulated" ∷ []) name

-- such a field is about one connection (RFC 9110, section 7.6.1)
abbrev pub is_of_connection : List ℕ → Bool
is_of_connection name =
    is_among (codes "Connection" ∷ codes "Proxy-Connection" ∷ codes "Keep-Alive" ∷ codes "TE" ∷ codes "Transfer-Encoding" ∷ codes "Upgrade"
    ∷ []) name

-- a field of this name may go on
abbrev pub may_go : List ℕ → Bool
may_go name = is_field_name name && not (is_own name) && not (is_of_connection name)

-- the name may follow these: they are fewer than eight, it isn't one of them, ASCII case ignored, and its field may go on
abbrev pub may_follow : List (List ℕ) → List ℕ → Bool
may_follow names name = nat_lt (length names) MAX_CARRIED && may_go name && not (is_among names name)

-- the name that a value says, where it may follow these
abbrev pub name_in : List (List ℕ) → Data → Option (List ℕ)
name_in names value = option_and_then (λ name. if may_follow names name then Some name else None) (as_str value)

-- these names and those of further values, where each may follow those before it
abbrev pub names_after : List (List ℕ) → Items → Option (List (List ℕ))
names_after names no_items = Some names
names_after names (item value items) = option_and_then (λ name. names_after (names ++ name ∷ []) items) (name_in names value)

-- the names that a key has: none where the key is missing
abbrev pub carry_or : Option Data → Option (List (List ℕ))
carry_or None = Some []
carry_or (Some value) = option_and_then (names_after []) (as_array value)
