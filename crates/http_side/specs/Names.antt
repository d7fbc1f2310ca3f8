-- The names of a head's fields, in an order in which names of one spelling, whatever their case, stand together.
use Rattle.std.specs.Prelude.{◌≡◌, ℕ, ◌<◌, ◌==◌, All, Bool, true, false, List, length, slice_index_or}
use Rattle.std.specs.Ordering.{is_lt, nat_cmp}
use Rattle.std.specs.Cmp.Lexicographic.{slice_cmp}
use Rattle.std.specs.List.{Contains, list_any, take_while}
use Rattle.std.specs.List.Sorted.{IsSortedBy}
use Rattle.std.specs.Str.{str_to_ascii_lowercase, str_eq_ignore_ascii_case}
use Rattle.std.specs.declared.cmp.Ordering.{Ordering}
use Rattle.adapt_bytes.specs.Fields.{name_at}
use Rattle.http_side.specs.declared.names.PlacedName.{PlacedName}

-- by their bytes in lower case
abbrev pub name_order : List ℕ → List ℕ → Ordering
name_order a b = slice_cmp nat_cmp (str_to_ascii_lowercase a) (str_to_ascii_lowercase b)

-- each is the name of the field at its place, and each field's place is there
pub record HavePlaces (fields : List (List ℕ × List ℕ)) (names : List PlacedName) : Type 0 where
  pub places : All (λ n. (n.place < length fields) × (n.name.now ≡ name_at fields n.place)) names
  pub all : (i : ℕ) → i < length fields → (n : PlacedName) × Contains names n × (n.place ≡ i)

-- they are also in order
pub record ArePlaced (fields : List (List ℕ × List ℕ)) (names : List PlacedName) : Type 0 where
  pub have : HavePlaces fields names
  pub sorted : IsSortedBy (λ a b. is_lt (name_order a.name.now b.name.now)) names

-- the field at this place has its name among these
abbrev pub has_place : ℕ → List PlacedName → Bool
has_place i names = list_any (λ n. n.place == i) names

-- the first names that are this one
abbrev pub run_of : List ℕ → List PlacedName → List PlacedName
run_of name names = take_while (λ n. str_eq_ignore_ascii_case name n.name.now) names

-- fields of one name are marked alike
abbrev pub AreAlike : List (List ℕ × List ℕ) → List Bool → Type 0
AreAlike fields named =
    (i j : ℕ) → i < length fields → j < length fields → str_eq_ignore_ascii_case (name_at fields i) (name_at fields j) ≡ true
    → slice_index_or named i false ≡ slice_index_or named j false
