-- Keys that nothing here has.
use denote.Ref.{Bor}
use Rattle.std.specs.Prelude.{◌≡◌, ℕ, ◌⊎◌, List, [], ◌∷◌, map, Some, codes, Contains, option_and_then}
use Rattle.toml.specs.Data.{Members, get_member, as_table}
use Rattle.proxy_config.specs.Keys.{document_keys}
use Rattle.proxy_config.specs.Order.{HasKey, nested}

-- the texts of keys
abbrev pub texts : List (Bor (List ℕ)) → List (List ℕ)
texts = map (λ key. key.now)

-- the keys of a service's table
abbrev pub service_keys : List (List ℕ)
service_keys = codes "host" ∷ codes "port" ∷ codes "path" ∷ codes "connections" ∷ []

-- the keys of the parent's table
abbrev pub parent_keys : List (List ℕ)
parent_keys = codes "host" ∷ codes "port" ∷ []

-- the table has a key that isn't known
abbrev pub HasOther : List (List ℕ) → Members → List ℕ → Type 0
HasOther known table key = HasKey table key × (Contains known key → ⊥)

-- such a key in the table that a key of the document has
abbrev pub IsUnknownOf : List (List ℕ) → List ℕ → Members → List ℕ → Type 0
IsUnknownOf known name document key = (table : Members) × (inner : List ℕ)
    × (option_and_then as_table (get_member name document) ≡ Some table)
    × HasOther known table inner × (key ≡ nested name inner)

-- such a key in the document, in the table of a point, or in that of the parent
abbrev pub IsUnknown : Members → List ℕ → Type 0
IsUnknown document key =
    HasOther document_keys document key
    ⊎ (IsUnknownOf service_keys (codes "reqmod") document key
    ⊎ (IsUnknownOf service_keys (codes "respmod") document key ⊎ IsUnknownOf parent_keys (codes "parent") document key))
