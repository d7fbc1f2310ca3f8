-- Which keys can't change while the proxy runs.
use denote.Ref.{Bor}
use Rattle.std.specs.Prelude.{◌≡◌, ◌⊎◌, ℕ, List, [], ◌∷◌, ◌==◌, map, Bool, ◌&&◌, not, ⊤, if◌then◌else◌, Option, Some, None}
use Rattle.std.specs.Prelude.{string_bytes}
use Rattle.std.specs.List.{filter}
use Rattle.proxy_config.specs.Keys.{Kind, NumberRule, Row, ValueOf, table}
use Rattle.proxy_config.specs.Keys.Kind.{file_path, service}
use Rattle.proxy_config.specs.declared.config.Config.{Config}
use Rattle.proxy_config.specs.declared.point.ServicePoint.{ServicePoint}

-- both services have the same host, address, path and number of connections, or both are missing
abbrev pub SameService : Option ServicePoint → Option ServicePoint → Type 0
SameService None None = ⊤
SameService None (Some other) = ⊥
SameService (Some one) None = ⊥
SameService (Some one) (Some other) = (string_bytes one.host ≡ string_bytes other.host) × (one.address ≡ other.address)
    × (string_bytes one.path ≡ string_bytes other.path) × (one.connections ≡ other.connections)

-- a file is written in both, or in none
abbrev pub AreBoth : Option (List ℕ) → Option (List ℕ) → Type 0
AreBoth None None = ⊤
AreBoth None (Some other) = ⊥
AreBoth (Some one) None = ⊥
AreBoth (Some one) (Some other) = ⊤

-- a value of a kind can stay in the place of the other while the proxy runs: they are the same; or they are other paths
abbrev pub Stays : (kind : Kind) → ValueOf kind → ValueOf kind → Type 0
Stays file_path one other = AreBoth one other
Stays service one other = SameService one other
Stays kind one other = one ≡ other

-- of this key the value of the new configuration can stay in the place of the old one's
abbrev pub Agrees : Row → Config → Config → Type 0
Agrees row old new = Stays row.kind (row.value_in old) (row.value_in new)

-- of these keys this is the first on which two configurations don't agree, if there is one
unfoldable pub IsFirstChange : List Row → Config → Config → Option (List ℕ) → Type 0
IsFirstChange [] old new found = found ≡ None
IsFirstChange (row ∷ rows) old new found =
    (Agrees row old new × IsFirstChange rows old new found) ⊎ ((Agrees row old new → ⊥) × (found ≡ Some row.name))

-- those of these keys that can't change
abbrev pub fixed_of : List Row → List Row
fixed_of = filter (λ row. row.is_fixed)

-- all keys that can't change
abbrev pub fixed_rows : List Row
fixed_rows = fixed_of table

-- keys, and whether two configurations agree on each
abbrev pub shown : List (Bor (List ℕ) × Bool) → List (List ℕ × Bool)
shown = map (λ check. (check.0.now, check.1))

-- the first on which they don't
abbrev pub first_other : List (List ℕ × Bool) → Option (List ℕ)
first_other [] = None
first_other (check ∷ checks) = if check.1 then first_other checks else Some check.0

-- by these rules the first key that can't change, and of which the numbers differ
abbrev pub first_differing : List NumberRule → (old new : List ℕ) → Option (List ℕ)
first_differing [] old new = None
first_differing (rule ∷ rules) [] new = None
first_differing (rule ∷ rules) (one ∷ old) [] = None
first_differing (rule ∷ rules) (one ∷ old) (other ∷ new) =
    if rule.is_fixed && not (one == other) then Some rule.name else first_differing rules old new

-- it is the one found, or there is none
pub record IsFirstDiffering (rules : List NumberRule) (old new : List ℕ) (found : Option (List ℕ)) : Type 0 where
  pub is : found ≡ first_differing rules old new
