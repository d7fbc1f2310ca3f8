-- The first fault of keys that are judged one after the other, and the order of keys by their bytes.
use Rattle.std.specs.Prelude.{◌≡◌, ℕ, ◌⊎◌, List, ◌++◌, Bool, if◌then◌else◌, Option, Some, None, MatchOption, IsSome, IsTrue, codes}
use Rattle.std.specs.Ordering.{is_lt, nat_cmp}
use Rattle.std.specs.Cmp.Lexicographic.{slice_cmp}
use Rattle.toml.specs.Data.{Members, get_member}

-- the key at fault: this one if it is bad, else one of the keys after it
abbrev pub FirstOf : List ℕ → Type 0 → Type 0 → Type 0 → List ℕ → Type 0
FirstOf key good bad later found = (bad × (found ≡ key)) ⊎ (good × later)

-- by a key with a value that may be bad
abbrev pub ValueFirst : {A : Type 0} → List ℕ → Option A → Type 0 → List ℕ → Type 0
ValueFirst key value later found = FirstOf key (IsSome value) (value ≡ None) later found

-- the table has the key
abbrev pub HasKey : Members → List ℕ → Type 0
HasKey table key = IsSome (get_member key table)

-- the key of a table's key: the table's name, a dot and the key
abbrev pub nested : List ℕ → List ℕ → List ℕ
nested table key = table ++ (codes "." ++ key)

-- whether a text comes before another in the order of their bytes
abbrev pub comes_before : List ℕ → List ℕ → Bool
comes_before text other = is_lt (slice_cmp nat_cmp text other)

-- of the texts with a property this is the first in the order of their bytes
pub record IsFirst (Has : List ℕ → Type 0) (text : List ℕ) : Type 0 where
  pub has : Has text
  pub none_before : (other : List ℕ) → Has other → IsTrue (comes_before other text) → ⊥

-- the first text with a property is found, where there is one
abbrev pub IsFirstOrNone : (List ℕ → Type 0) → Option (List ℕ) → Type 0
IsFirstOrNone Has found = MatchOption found ((text : List ℕ) → Has text → ⊥) (IsFirst Has)

-- the one that comes first, of the texts that are there
abbrev pub first_text : Option (List ℕ) → Option (List ℕ) → Option (List ℕ)
first_text (Some text) (Some other) = Some (if comes_before other text then other else text)
first_text (Some text) None = Some text
first_text None other = other
