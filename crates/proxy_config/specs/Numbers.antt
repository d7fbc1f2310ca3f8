-- Keys whose values are whole numbers, and that are read one after the other.
use Rattle.std.specs.Prelude.{◌≡◌, ℕ, suc, ◌+◌, List, [], ◌∷◌, ◌++◌, length, map, drop, Bool, if◌then◌else◌, Option, Some, None}
use Rattle.std.specs.Prelude.{bytes_eq, codes, option_map, slice_index}
use Rattle.toml.specs.Data.{Members}
use Rattle.proxy_config.specs.Keys.{Kind, NumberRow, NumberRule, Row, size_rows, table}
use Rattle.proxy_config.specs.Keys.Kind.{number}
use Rattle.proxy_config.specs.Turns.{Reaches, rows_from}
use Rattle.proxy_config.specs.Values.{IsWithin, number_at}
use Rattle.proxy_config.specs.declared.number_key.NumberKey.{NumberKey}

-- the rule of a key of the code
abbrev pub rule_of : NumberKey → NumberRule
rule_of key = record { name = key.name.now; low = key.low; high = key.high; default = key.default; is_fixed = key.is_fixed }

-- the rules of keys of the code
abbrev pub key_rules : List NumberKey → List NumberRule
key_rules = map rule_of

-- the rules of rows
abbrev pub row_rules : List NumberRow → List NumberRule
row_rules = map (λ row. row.rule)

-- the rows begin with those of these rules
abbrev pub BeginWith : List NumberRule → List Row → Type 0
BeginWith [] rows = Unit {0}
BeginWith (rule ∷ rules) [] = ⊥
BeginWith (rule ∷ rules) (row ∷ rows) =
    (row.name ≡ rule.name) × (row.kind ≡ number rule.low rule.high rule.default) × BeginWith rules rows

-- the rows from that of the first of these rules on
abbrev pub rows_of : List NumberRule → List Row
rows_of [] = []
rows_of (rule ∷ rules) = rows_from rule.name table

-- the keys of these rules come next: each before them is good
pub record AreNext (rules : List NumberRule) (document : Members) : Type 0 where
  pub are_rows : BeginWith rules (rows_of rules)
  pub reached : Reaches (rows_of rules) document

-- the key after these comes next: they are good too
abbrev pub ArePast : List NumberRule → Members → Type 0
ArePast rules document = Reaches (drop (length rules) (rows_of rules)) document

-- from this place on, the numbers are those that the document says by these rules
abbrev pub AreSaidFrom : ℕ → List NumberRule → Members → List ℕ → Type 0
AreSaidFrom at [] document numbers = Unit {0}
AreSaidFrom at (rule ∷ rules) document numbers =
    (number_at rule.name rule.low rule.high rule.default document ≡ Some (slice_index numbers at))
    × AreSaidFrom (at + 1) rules document numbers

-- from this place on, each number lies in the range of its rule
abbrev pub AreWithinFrom : ℕ → List NumberRule → List ℕ → Type 0
AreWithinFrom at [] numbers = Unit {0}
AreWithinFrom at (rule ∷ []) numbers = IsWithin rule.low rule.high (slice_index numbers at)
AreWithinFrom at (rule ∷ next ∷ rules) numbers =
    IsWithin rule.low rule.high (slice_index numbers at) × AreWithinFrom (at + 1) (next ∷ rules) numbers

-- the numbers are those that the document says by these rules, and lie in their ranges
pub record AreRead (rules : List NumberRule) (document : Members) (numbers : List ℕ) : Type 0 where
  pub said : AreSaidFrom 0 rules document numbers
  pub within : AreWithinFrom 0 rules numbers

-- the place of the first of these rules that has a name; their number where none has it
abbrev pub place_of : List ℕ → List NumberRule → ℕ
place_of name [] = 0
place_of name (rule ∷ rules) = if bytes_eq rule.name name then 0 else suc (place_of name rules)

-- the window, among the numbers of the keys that say how much there may be
abbrev pub window_among : List ℕ → ℕ
window_among sizes = slice_index sizes (place_of (codes "window") (row_rules size_rows))

-- the rule of a row, where its value is a whole number that has a range of its own
abbrev pub rule_in : List ℕ → Kind → Bool → List NumberRule
rule_in name (number low high default) is_fixed =
    record { name = name; low = low; high = high; default = default; is_fixed = is_fixed } ∷ []
rule_in name _ is_fixed = []

-- the rules of such rows
abbrev pub rules_among : List Row → List NumberRule
rules_among [] = []
rules_among (row ∷ rows) = rule_in row.name row.kind row.is_fixed ++ rules_among rows

-- the first of these rules that has the name
abbrev pub rule_named : List NumberRule → List ℕ → Option NumberRule
rule_named [] name = None
rule_named (rule ∷ rules) name = if bytes_eq rule.name name then Some rule else rule_named rules name

-- a key is found exactly where one of these rules has the name: the first that has it is the key's, with its range, its default, and
-- whether it can change
pub record IsKeyOf (rules : List NumberRule) (name : List ℕ) (found : Option NumberKey) : Type 0 where
  pub is : option_map rule_of found ≡ rule_named rules name
