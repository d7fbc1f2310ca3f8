-- Looking through the keys of a table for the first that isn't known.
use Rattle.std.proofs.Common.{◌≡◌, ℕ, ◌⊎◌, ◌||◌, arith, Bor, bytes_eq, List, [], ◌∷◌, Bool, true, false, if◌then◌else◌, Option, Some, None}
use Rattle.std.proofs.Common.{IsSome, IsTrue, All, Contains, String, Global, string_cmp, string_bytes, codes, option_map, option_and_then}
use Rattle.std.proofs.Common.{refl, sym, ◌∙◌, subst, inl, inr, rules}
use Rattle.std.proofs.lemmas.Bool.{false≢true}
use Rattle.std.proofs.lemmas.List.Elements.{All-nil, All-cons, All-contains, All-head, All-tail, All-weaker, Contains-push}
use Rattle.std.proofs.lemmas.List.Elements.{Contains-append_cases, Contains-append_left, Contains-append_right}
use Rattle.std.proofs.lemmas.Slice.Eq.{bytes_eq-Decides}
use Rattle.std.specs.List.{list_any}
use Rattle.std.specs.BTreeMap.{is_at}
use Rattle.std.specs.List.Sorted.{IsStrictlySortedBy}
use Rattle.std.specs.Map.{keys_of, lookup}
use Rattle.toml.proofs.Views.{view-lookup, Entry}
use Rattle.toml.specs.Data.{Data, Members, get_member, as_table}
use Rattle.toml.specs.View.{view, members_view}
use Rattle.proxy_config.specs.Keys.{document_keys}
use Rattle.proxy_config.specs.Order.{HasKey, IsFirst, IsFirstOrNone, comes_before, first_text, nested}
use Rattle.proxy_config.specs.Unknown.{HasOther, IsUnknown, IsUnknownOf, parent_keys, service_keys, texts}
use Rattle.proxy_config.proofs.Entries.{HasText, has_text, ahead, ascending_rest}
use Rattle.proxy_config.proofs.TextOrder.{not_before_itself, not_both, goes_on, before_later, nested_order}

-- each key before the rest is known
pub record IsLooking (known : List (List ℕ)) (table : Members) (rest : List (String Global)) : Type 0 where
  pub ascending : IsStrictlySortedBy string_cmp rest
  pub has : All (λ (key : String Global). HasKey table (string_bytes key)) rest
  pub done : (key : List ℕ) → HasKey table key → Contains known key ⊎ HasText rest key

-- an option with a value has one when it is mapped
map_some : {A B : Type 0} (f : A → B) (o : Option A) → IsSome o → IsSome (option_map f o)
map_some f None h = absurd (false≢true h)
map_some f (Some x) h = refl

-- a key that the map finds is a key of the table
has_at : (es : List Entry) (key : String Global) → IsSome (lookup (is_at (string_cmp key)) es) → HasKey (members_view es) (string_bytes key)
has_at es key found =
    let P : Option Data → Type 0 = λ o. IsSome o in
    subst P (view-lookup (string_bytes key) es) (map_some view (lookup (is_at (string_cmp key)) es) found)

-- before any key was looked at, all keys of the table are still to come
pub looks : (known : List (List ℕ)) (es : List Entry) → IsStrictlySortedBy string_cmp (keys_of es)
    → All (λ (key : String Global). IsSome (lookup (is_at (string_cmp key)) es)) (keys_of es)
    → IsLooking known (members_view es) (keys_of es)
looks known es ascending found = record {
  ascending = ascending;
  has = All-weaker
      (λ (key : String Global). IsSome (lookup (is_at (string_cmp key)) es))
      (λ (key : String Global). HasKey (members_view es) (string_bytes key))
      (λ key. has_at es key)
      (keys_of es)
      found;
  done = λ key has. inr (has_text key es has);
}

-- after a key that is known, the keys after it are still to come
pub looks_on : (known : List (List ℕ)) (table : Members) (key : String Global) (rest : List (String Global))
    → IsLooking known table (key ∷ rest)
    → Contains known (string_bytes key) → IsLooking known table rest
looks_on known table key rest looking is_known =
    let P : List ℕ → Type 0 = λ text. Contains known text in
    record {
      ascending = ascending_rest key rest looking.ascending;
      has = All-tail (λ (k : String Global). HasKey table (string_bytes k)) key rest looking.has;
      done = λ other has. elim (looking.done other has) as (λ _. Contains known other ⊎ HasText rest other) [
        | inl known_too ↦ inl known_too
        | inr (inl same) ↦ inl (subst P (sym same) is_known)
        | inr (inr later) ↦ inr later
      ];
    }

-- where all keys before it are known, a key that isn't is the first such one of the table
pub finds : (known : List (List ℕ)) (table : Members) (key : String Global) (rest : List (String Global))
    → IsLooking known table (key ∷ rest)
    → (Contains known (string_bytes key) → ⊥) → IsFirst (HasOther known table) (string_bytes key)
finds known table key rest looking is_other = record {
  has = (All-head (λ (k : String Global). HasKey table (string_bytes k)) key rest looking.has, is_other);
  none_before = λ other has_other sooner. elim (looking.done other has_other.0) as (λ _. ⊥) [
    | inl known_too ↦ has_other.1 known_too
    | inr (inl same) ↦ not_before_itself (string_bytes key) (rw same at sooner)
    | inr (inr later) ↦ not_both other (string_bytes key) sooner (ahead key rest looking.ascending other later)
  ];
}

-- where no key is left, the table has none that isn't known
pub finds_none : (known : List (List ℕ)) (table : Members) → IsLooking known table [] → (key : List ℕ) → HasOther known table key → ⊥
finds_none known table looking key other = elim (looking.done key other.0) as (λ _. ⊥)
    [ inl known_too ↦ other.1 known_too | inr none ↦ none ]

-- two equal options of which each holds a value hold the same
same_some : {A : Type 0} (x y : A) → Some x ≡ Some y → x ≡ y
same_some x y e = search (rules, e)

-- the inner key of an unknown key of the table
inner_of : (known : List (List ℕ)) (name : List ℕ) (document table : Members) (key : List ℕ)
    → option_and_then as_table (get_member name document) ≡ Some table
    → (unknown : IsUnknownOf known name document key) → HasOther known table unknown.1
inner_of known name document table key is unknown =
    let same : unknown.0 ≡ table = same_some unknown.0 table (sym unknown.2 ∙ is) in
    let P : Members → Type 0 = λ t. HasOther known t unknown.1 in
    subst P same unknown.3

-- a table's first unknown key, with the table's name before it, is the document's first unknown key in that table
pub first_of_table : (known : List (List ℕ)) (name : List ℕ) (document table : Members) (key : List ℕ)
    → option_and_then as_table (get_member name document) ≡ Some table
    → IsFirst (HasOther known table) key → IsFirst (IsUnknownOf known name document) (nested name key)
first_of_table known name document table key is first = record {
  has = (table, key, is, first.has, refl);
  none_before = λ other unknown sooner.
      let P : List ℕ → Type 0 = λ text. IsTrue (comes_before text (nested name key)) in
      first.none_before unknown.1 (inner_of known name document table other is unknown)
      (sym (nested_order name unknown.1 key) ∙ subst P unknown.4 sooner);
}

-- of two first texts the first one
sooner_of : (P Q : List ℕ → Type 0) (text other : List ℕ) (swap : Bool) → comes_before other text ≡ swap → IsFirst P text → IsFirst Q other
    → IsFirst (λ t. P t ⊎ Q t) (if swap then other else text)
sooner_of P Q text other true is first second = record {
  has = inr second.has;
  none_before = λ t has sooner. elim has as (λ _. ⊥) [
    | inl p ↦ first.none_before t p (goes_on t other text sooner is)
    | inr q ↦ second.none_before t q sooner
  ];
}
sooner_of P Q text other false is first second = record {
  has = inl first.has;
  none_before = λ t has sooner. elim has as (λ _. ⊥) [
    | inl p ↦ first.none_before t p sooner
    | inr q ↦ second.none_before t q (before_later t text other sooner is)
  ];
}

-- the first of those with either property
pub first_of_both : (P Q : List ℕ → Type 0) (a b : Option (List ℕ)) → IsFirstOrNone P a → IsFirstOrNone Q b
    → IsFirstOrNone (λ t. P t ⊎ Q t) (first_text a b)
first_of_both P Q (Some text) (Some other) first second = sooner_of P Q text other (comes_before other text) refl first second
first_of_both P Q (Some text) None first none = record {
  has = inl first.has;
  none_before = λ t has sooner. elim has as (λ _. ⊥) [ inl p ↦ first.none_before t p sooner | inr q ↦ none t q ];
}
first_of_both P Q None (Some other) none second = record {
  has = inr second.has;
  none_before = λ t has sooner. elim has as (λ _. ⊥) [ inl p ↦ none t p | inr q ↦ second.none_before t q sooner ];
}
first_of_both P Q None None none none_too = λ t has. elim has as (λ _. ⊥) [ inl p ↦ none t p | inr q ↦ none_too t q ]

-- where a disjunction is true, one of its sides is
or_cases : (a b : Bool) → (a || b) ≡ true → (a ≡ true) ⊎ (b ≡ true)
or_cases true b h = inl refl
or_cases false b h = inr h

-- a disjunction is true where its first side is
or_left : (a b : Bool) → a ≡ true → (a || b) ≡ true
or_left true b h = refl
or_left false b h = absurd (false≢true h)

-- a disjunction is true where its second side is
or_right : (a b : Bool) → b ≡ true → (a || b) ≡ true
or_right true b h = refl
or_right false b h = h

-- an element of a list of one text is that text
only_one : (text key : List ℕ) → Contains (text ∷ []) key → key ≡ text
only_one text key contains =
    let P : List ℕ → Type 0 = λ t. t ≡ text in
    All-contains P (text ∷ []) key (All-cons P text [] refl (All-nil P)) contains

-- the test finds just the keys that are known
pub known_if : (known : List (Bor (List ℕ))) (key : List ℕ) → list_any (λ (other : Bor (List ℕ)). bytes_eq other.now key) known ≡ true
    → Contains (texts known) key
known_if [] key found = absurd (false≢true found)
known_if (other ∷ known) key found =
    let P : List ℕ → Type 0 = λ t. Contains (texts (other ∷ known)) t in
    elim (or_cases (bytes_eq other.now key) _ found) as (λ _. Contains (texts (other ∷ known)) key) [
      | inl here ↦ subst P ((bytes_eq-Decides other.now key).0 here) (Contains-append_left (other.now ∷ []) (texts known) other.now
          (Contains-push [] other.now))
      | inr later ↦ Contains-append_right (other.now ∷ []) (texts known) key (known_if known key later)
    ]

-- a key that is known is found by the test
pub if_known : (known : List (Bor (List ℕ))) (key : List ℕ) → Contains (texts known) key
    → list_any (λ (other : Bor (List ℕ)). bytes_eq other.now key) known ≡ true
if_known [] key contains = absurd (omega (arith, contains.1))
if_known (other ∷ known) key contains = elim (Contains-append_cases (other.now ∷ []) (texts known) key contains) as
    (λ _. list_any (λ (o : Bor (List ℕ)). bytes_eq o.now key) (other ∷ known) ≡ true) [
      | inl here ↦ or_left (bytes_eq other.now key) _ ((bytes_eq-Decides other.now key).1 (sym (only_one other.now key here)))
      | inr later ↦ or_right (bytes_eq other.now key) _ (if_known known key later)
    ]

-- the first of the document's and its tables' first unknown keys is the first of all
pub first_unknown_key : (document : Members) (a b d e found : Option (List ℕ)) → found ≡ first_text a (first_text b (first_text d e))
    → IsFirstOrNone (HasOther document_keys document) a → IsFirstOrNone (IsUnknownOf service_keys (codes "reqmod") document) b
    → IsFirstOrNone (IsUnknownOf service_keys (codes "respmod") document) d
    → IsFirstOrNone (IsUnknownOf parent_keys (codes "parent") document) e
    → IsFirstOrNone (IsUnknown document) found
first_unknown_key document a b d e found is at_top of_reqmod of_respmod of_parent =
    let P : Option (List ℕ) → Type 0 = λ text. IsFirstOrNone (IsUnknown document) text in
    let R : List ℕ → Type 0 = IsUnknownOf service_keys (codes "reqmod") document in
    let S : List ℕ → Type 0 = IsUnknownOf service_keys (codes "respmod") document in
    let T : List ℕ → Type 0 = IsUnknownOf parent_keys (codes "parent") document in
    let of_two = first_of_both S T d e of_respmod of_parent in
    let of_three = first_of_both R (λ t. S t ⊎ T t) b (first_text d e) of_reqmod of_two in
    subst P (sym is) (first_of_both
    (HasOther document_keys document)
    (λ t. R t ⊎ (S t ⊎ T t))
    a
    (first_text b (first_text d e))
    at_top
    of_three)
