-- What a table has at the keys of its entries.
use Rattle.std.proofs.Common.{◌≡◌, ℕ, ◌⊎◌, List, [], ◌∷◌, Option, Some, IsSome, IsTrue, All, Ordering, Less, Equal, Greater, String, Global}
use Rattle.std.proofs.Common.{nat_cmp, string_cmp, string_bytes, option_map, refl, sym, ap, ◌∙◌, subst, inl, inr}
use Rattle.std.proofs.lemmas.Bool.{false≢true}
use Rattle.std.proofs.lemmas.List.Elements.{All-weaker}
use Rattle.std.proofs.lemmas.Map.Lookups.{exact_bytes}
use Rattle.std.specs.Cmp.Lexicographic.{slice_cmp}
use Rattle.std.specs.List.{AllByRecursion}
use Rattle.std.specs.List.Sorted.{IsStrictlySortedBy}
use Rattle.std.specs.Map.{keys_of, lookup}
use Rattle.std.specs.Ordering.{match_ordering}
use Rattle.std.specs.BTreeMap.{is_at}
use Rattle.toml.proofs.Views.{view-lookup, Entry}
use Rattle.toml.specs.Data.{Data, get_member}
use Rattle.toml.specs.View.{view, members_view}
use Rattle.proxy_config.specs.Order.{HasKey, comes_before}
use Rattle.proxy_config.proofs.TextOrder.{before}

-- the text is one of the keys
abbrev pub HasText : List (String Global) → List ℕ → Type 0
HasText [] text = ⊥
HasText (key ∷ keys) text = (text ≡ string_bytes key) ⊎ HasText keys text

-- a key that is found with one entry more is that entry's or one of the others'
has_at : (o : Ordering) (key : List ℕ) (e : Entry) (es : List Entry) (rest : Option Data) → slice_cmp nat_cmp key (string_bytes e.0) ≡ o
    → IsSome (match_ordering o rest (Some (view e.1)) rest) → (IsSome rest → HasText (keys_of es) key) → HasText (keys_of (e ∷ es)) key
has_at Less key e es rest is some more = inr (more some)
has_at Equal key e es rest is some more = inl (exact_bytes key (string_bytes e.0) is)
has_at Greater key e es rest is some more = inr (more some)

-- a key of the table is one of the entries' keys
pub has_text : (key : List ℕ) (es : List Entry) → HasKey (members_view es) key → HasText (keys_of es) key
has_text key [] some = false≢true some
has_text key (e ∷ es) some =
    has_at (slice_cmp nat_cmp key (string_bytes e.0)) key e es (get_member key (members_view es)) refl some (has_text key es)

-- what the map finds at an entry's key is in the table
pub held_at : (es : List Entry) (e : Entry) → lookup (is_at (string_cmp e.0)) es ≡ Some e.1
    → get_member (string_bytes e.0) (members_view es) ≡ Some (view e.1)
held_at es e found = sym (view-lookup (string_bytes e.0) es) ∙ ap (option_map view) found

-- what the map finds at each of its entries' keys is in the table
pub held : (es : List Entry) → All (λ (e : Entry). lookup (is_at (string_cmp e.0)) es ≡ Some e.1) es
    → All (λ (e : Entry). get_member (string_bytes e.0) (members_view es) ≡ Some (view e.1)) es
held es found = All-weaker
    (λ (e : Entry). lookup (is_at (string_cmp e.0)) es ≡ Some e.1)
    (λ (e : Entry). get_member (string_bytes e.0) (members_view es) ≡ Some (view e.1))
    (λ e. held_at es e)
    es
    found

-- a key that is less than each of some keys comes before each of their texts
ahead_of : (key : String Global) (keys : List (String Global))
    → AllByRecursion (λ (other : String Global). string_cmp key other ≡ Less) keys
    → (later : List ℕ) → HasText keys later → IsTrue (comes_before (string_bytes key) later)
ahead_of key [] above later has = absurd has
ahead_of key (other ∷ keys) above later has =
    let P : List ℕ → Type 0 = λ text. IsTrue (comes_before (string_bytes key) text) in
    elim has as (λ _. IsTrue (comes_before (string_bytes key) later)) [
      | inl same ↦ subst P (sym same) (before (string_bytes key) (string_bytes other) above.0)
      | inr more ↦ ahead_of key keys above.1 later more
    ]

-- the first of keys that ascend comes before the others
pub ahead : (key : String Global) (keys : List (String Global)) → IsStrictlySortedBy string_cmp (key ∷ keys)
    → (later : List ℕ) → HasText keys later → IsTrue (comes_before (string_bytes key) later)
unfolding IsStrictlySortedBy
ahead key keys ascending = ahead_of key keys ascending.0

-- keys that ascend still do so without the first
pub ascending_rest : (key : String Global) (keys : List (String Global)) → IsStrictlySortedBy string_cmp (key ∷ keys)
    → IsStrictlySortedBy string_cmp keys
unfolding IsStrictlySortedBy
ascending_rest key keys ascending = ascending.1
