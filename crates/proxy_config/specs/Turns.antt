-- The keys are read in the order of their rows.
use Rattle.std.specs.Prelude.{◌≡◌, ℕ, List, [], ◌∷◌, bytes_eq, if◌then◌else◌}
use Rattle.toml.specs.Data.{Members}
use Rattle.proxy_config.specs.Config.{IsFirstFault, IsFirstIn}
use Rattle.proxy_config.specs.Keys.{Kind, Row, table}

-- the rows from that of a name on
abbrev pub rows_from : List ℕ → List Row → List Row
rows_from name [] = []
rows_from name (row ∷ rows) = if bytes_eq row.name name then row ∷ rows else rows_from name rows

-- the rows after the first
abbrev pub rest : List Row → List Row
rest [] = []
rest (row ∷ rows) = rows

-- the first of the rows has this name and this kind
abbrev pub Begins : List Row → List ℕ → Kind → Type 0
Begins [] name kind = ⊥
Begins (row ∷ rows) name kind = (row.name ≡ name) × (row.kind ≡ kind)

-- each key before these rows is good, so that the first fault of theirs is that of the document
pub record Reaches (rows : List Row) (document : Members) : Type 0 where
  pub first : (found : List ℕ) → IsFirstIn rows document found → IsFirstFault document found

-- a key of this kind comes next: each before it is good
pub record IsNext (name : List ℕ) (kind : Kind) (document : Members) : Type 0 where
  pub is_row : Begins (rows_from name table) name kind
  pub reached : Reaches (rows_from name table) document

-- the key after this one comes next: this one is good too
abbrev pub IsPast : List ℕ → Members → Type 0
IsPast name = Reaches (rest (rows_from name table))
