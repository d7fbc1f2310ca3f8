-- The request targets that a proxy serves (RFC 9112, section 3.2).
use Rattle.std.specs.Prelude.{◌≡◌, ℕ, Bool, true, false, not, ◌||◌, ◌&&◌, List, [], ◌∷◌, length, drop, take, ◌++◌, suc, if◌then◌else◌}
use Rattle.std.specs.Prelude.{slice_index, Option, Some, None, codes, ◌==◌, nat_le, nat_lt, bytes_eq}
use Rattle.std.specs.List.{list_any}
use Rattle.http_uri.specs.Uri.{Spells, uri_scheme, uri_authority}
use Rattle.http_uri.specs.Grammar.{authority_host}
use Rattle.http_uri.specs.declared.uri.Uri.{Uri as Target}
use Rattle.adapt_bytes.specs.declared.limits.TheConstants.{MAX_PORT}
use Rattle.http_side.specs.Lengths.{length_value}
use Rattle.http_side.specs.Heads.{RequestParts, is_options}

abbrev pub is_port_number : Option ℕ → Bool
is_port_number None = false
is_port_number (Some n) = nat_lt 0 n && nat_le n MAX_PORT

-- after the colon: nothing, or a decimal from 1 to 65,535
abbrev pub is_port : List ℕ → Bool
is_port [] = true
is_port (b ∷ digits) = is_port_number (length_value (b ∷ digits))

-- after the host: nothing, or a colon and a port
abbrev pub is_port_part : List ℕ → Bool
is_port_part [] = true
is_port_part (b ∷ port) = b == 58 && is_port port

-- a host that isn't empty, then nothing or a port, and no user (RFC 9110, sections 4.2.1 and 4.2.4)
abbrev pub is_plain_authority : List ℕ → Bool
is_plain_authority authority =
    not (list_any (λ b. b == 64) authority)
    && (nat_lt 0 (length (authority_host authority)) && is_port_part (drop (length (authority_host authority)) authority))

-- a path follows `http://` and the authority
abbrev pub has_path_behind : List ℕ → List ℕ → Bool
has_path_behind authority text = slice_index (drop (length authority) (drop 7 text)) 0 == 47

-- by the scheme and the authority: absolute form with `http`, and a path where one is needed; or origin form where that is allowed
abbrev pub serves : Bool → Bool → List ℕ → Option (List ℕ) → Option (List ℕ) → Bool
serves adapted needs_path text None None = adapted && slice_index text 0 == 47
serves adapted needs_path text None (Some authority) = false
serves adapted needs_path text (Some scheme) None = false
serves adapted needs_path text (Some scheme) (Some authority) =
    bytes_eq scheme (codes "http") && (is_plain_authority authority && (not needs_path || has_path_behind authority text))

abbrev pub serves_uri : Bool → Bool → List ℕ → Target → Bool
serves_uri adapted needs_path text uri = serves adapted needs_path text (uri_scheme uri) (uri_authority uri)

-- the text spells a URI that is served
abbrev pub IsServed : Bool → Bool → List ℕ → Type 0
IsServed adapted needs_path text = (uri : Target) × Spells text uri × (serves_uri adapted needs_path text uri ≡ true)

abbrev pub IsServedIn : Bool → RequestParts → Type 0
IsServedIn adapted r = IsServed adapted (is_options r) r.target

-- ---- the parts of a target as it came

abbrev pub is_delimiter : ℕ → Bool
is_delimiter b = (b == 47) || ((b == 63) || (b == 35))

abbrev pub is_hash : ℕ → Bool
is_hash b = b == 35

-- how many bytes stand before the first that passes the test
abbrev pub count_before : (ℕ → Bool) → List ℕ → ℕ
count_before test [] = 0
count_before test (b ∷ text) = if test b then 0 else suc (count_before test text)

abbrev pub before : (ℕ → Bool) → List ℕ → List ℕ
before test text = take (count_before test text) text

abbrev pub from : (ℕ → Bool) → List ℕ → List ℕ
from test text = drop (count_before test text) text

-- the authority of an `http://` target
abbrev pub authority_of : List ℕ → List ℕ
authority_of target = before is_delimiter (drop 7 target)

abbrev pub is_rooted : List ℕ → Bool
is_rooted path = slice_index path 0 == 47

abbrev pub rooted : List ℕ → List ℕ
rooted path = if is_rooted path then path else 47 ∷ path

-- the path and the query of a target of either form, without a fragment
abbrev pub path_of : List ℕ → List ℕ
path_of target = before is_hash (if is_rooted target then target else from is_delimiter (drop 7 target))

-- origin form: never without its `/`
abbrev pub origin_form : List ℕ → List ℕ
origin_form target = rooted (path_of target)

-- absolute form, of an authority
abbrev pub absolute_form : List ℕ → List ℕ → List ℕ
absolute_form authority target = codes "http://" ++ authority ++ origin_form target
