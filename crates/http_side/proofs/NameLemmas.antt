-- The order of names, and what a search among names in order finds.
use Rattle.std.proofs.Common.{◌≡◌, ℕ, ◌+◌, ◌-◌, ◌<◌, ◌≤◌, ◌==◌, ◌||◌, Bool, true, false, List, [], ◌∷◌, ◌++◌, length, take, drop, Less}
use Rattle.std.proofs.Common.{Equal, Greater, nat_cmp, refl, sym, ap, ◌∙◌, inl, inr, ◌⊎◌, arith, tests}
use Rattle.std.specs.Prelude.{slice_index_or}
use Rattle.std.specs.Ordering.{is_eq, is_lt, ordering_reverse, ordering_index}
use Rattle.std.specs.declared.cmp.Ordering.{Ordering}
use Rattle.std.specs.List.{All, Contains, prefix_len, refill}
use Rattle.std.specs.List.Sorted.{IsNonDecreasingBy, IsPartitionPoint, IsPartitionedBy, IsPermutation}
use Rattle.std.specs.Str.{str_to_ascii_lowercase, str_eq_ignore_ascii_case}
use Rattle.std.proofs.lemmas.Bool.{both_ways, cases_Bool, cases_lt, eq-eqb, false_from_ne_true, ne_eqb, or_left}
use Rattle.std.proofs.lemmas.Cmp.{nat_list_cmp_total}
use Rattle.std.proofs.lemmas.List.{append-nil, get_or-drop, get_or-take, length-drop, length-take-le, take_all}
use Rattle.std.proofs.Math.ListN.{drop_of_length-le}
use Rattle.std.proofs.lemmas.List.Elements.{Contains-push, Contains-append_left}
use Rattle.std.proofs.lemmas.List.Folds.{length-prefix_len, list_any_at, list_any_none}
use Rattle.std.proofs.lemmas.List.Sums.{prefix_len_is, prefix_len_passes, prefix_len_stops}
use Rattle.std.proofs.lemmas.List.Sorted.{searchable_from_sorted, All-permutation, Contains-permutation}
use Rattle.std.proofs.lemmas.Map.Text.{is_eq-slice_cmp}
use Rattle.adapt_bytes.specs.Fields.{name_at}
use Rattle.http_side.specs.Forward.{Marks}
use Rattle.http_side.specs.Names.{name_order, HavePlaces, AreAlike, ArePlaced, has_place, run_of}
use Rattle.http_side.specs.declared.names.PlacedName.{PlacedName}
use Rattle.http_side.proofs.ForwardLemmas.{or_false}
use Rattle.http_side.proofs.Passing.{same_as}

-- where one of two rests is empty, the whole lengths are in the order of the rests
ended : (xs ys : List ℕ) (i m n : ℕ) → i + length xs ≡ m → i + length ys ≡ n → (m ≤ i) ⊎ (n ≤ i) → nat_cmp m n ≡ name_order xs ys
ended [] [] i m n e f s = grind (arith, tests)
ended [] (y ∷ ys) i m n e f s = grind (arith, tests)
ended (x ∷ xs) [] i m n e f s = grind (arith, tests)
ended (x ∷ xs) (y ∷ ys) i m n e f (inl s) = absurd (omega arith)
ended (x ∷ xs) (y ∷ ys) i m n e f (inr s) = absurd (omega arith)

-- where one of two names ends, their lengths decide
pub order_at_end : (a b : List ℕ) (i : ℕ) → i ≤ length a → i ≤ length b → (length a ≤ i) ⊎ (length b ≤ i)
    → nat_cmp (length a) (length b) ≡ name_order (drop i a) (drop i b)
order_at_end a b i l m s = ended (drop i a) (drop i b) i (length a) (length b) (omega (arith, length-drop i a))
    (omega (arith, length-drop i b)) s

-- names compare as equal just where they are the same but for case
same_from_order : (a b : List ℕ) → is_eq (name_order a b) ≡ str_eq_ignore_ascii_case a b
same_from_order a b = is_eq-slice_cmp (str_to_ascii_lowercase a) (str_to_ascii_lowercase b)

-- an order is equal just where its reverse is
eq_reversed : (o : Ordering) → is_eq (ordering_reverse o) ≡ is_eq o
eq_reversed Less = refl
eq_reversed Equal = refl
eq_reversed Greater = refl

-- names that compare as equal are one
order_same : (a b : List ℕ) → is_eq (name_order a b) ≡ str_eq_ignore_ascii_case b a
order_same a b = sym (eq_reversed (name_order a b)) ∙ ap is_eq (sym (nat_list_cmp_total.antisymm (str_to_ascii_lowercase b)
    (str_to_ascii_lowercase a))) ∙ same_from_order b a

-- no order is two at once
less_or_equal : (o : Ordering) → is_lt o ≡ true → is_eq o ≡ true → ⊥
less_or_equal Less l e = absurd (let f : false ≡ true = e in cc)
less_or_equal Equal l e = absurd (let f : false ≡ true = l in cc)
less_or_equal Greater l e = absurd (let f : false ≡ true = e in cc)

-- an order that is no higher than less is less
less_below : (o p : Ordering) → ordering_index o ≤ ordering_index p → is_lt p ≡ true → is_lt o ≡ true
less_below Less p l e = refl
less_below Equal Less l e = absurd (omega arith)
less_below Equal Equal l e = e
less_below Equal Greater l e = e
less_below Greater Less l e = absurd (omega arith)
less_below Greater Equal l e = e
less_below Greater Greater l e = e

-- an order that is no higher than equal, and not less, is equal
equal_below : (o p : Ordering) → ordering_index o ≤ ordering_index p → is_lt o ≡ false → is_eq p ≡ true → is_eq o ≡ true
equal_below Less p l n e = absurd (let f : true ≡ false = n in cc)
equal_below Equal p l n e = refl
equal_below Greater Less l n e = e
equal_below Greater Equal l n e = absurd (omega arith)
equal_below Greater Greater l n e = e

-- what passes of a parted list comes first
pub front_parts : {X : Type 0} (p : X → Bool) (xs : List X) → IsPartitionedBy p xs
    → IsPartitionPoint (λ x. p x ≡ true) (λ x. p x ≡ false) xs (prefix_len p xs)
front_parts p xs parts = (
  λ k d _ l. prefix_len_passes p xs k d l,
  λ k d l m. false_from_ne_true (p (slice_index_or xs k d))
      (λ e. both_ways (p (slice_index_or xs (prefix_len p xs) d)) (prefix_len_stops p xs d (omega arith))
      (parts (prefix_len p xs) k d l m e)),
)

module _ (fields : List (List ℕ × List ℕ)) (names : List PlacedName) (name : List ℕ) (placed : ArePlaced fields names) where
  abbrev order_of : PlacedName → Ordering
  order_of n = name_order n.name.now name

  -- along names in order, how each compares with one name never falls
  rising : IsNonDecreasingBy (λ n. ordering_index (order_of n)) names
  rising = searchable_from_sorted nat_list_cmp_total (λ n. str_to_ascii_lowercase n.name.now) names (str_to_ascii_lowercase name)
      placed.sorted

  -- what stands before a name stands before what follows
  pub parted_less : IsPartitionedBy (λ n. is_lt (name_order n.name.now name)) names
  parted_less i j d l m e = less_below (order_of (slice_index_or names i d)) (order_of (slice_index_or names j d)) (rising i j d l m) e

  module _ (from : ℕ) (behind : List PlacedName) (is : behind ≡ drop from names)
      (less : IsPartitionPoint (λ n. is_lt (name_order n.name.now name) ≡ true) (λ n. is_lt (name_order n.name.now name) ≡ false) names
      from) where
    at_behind : (k : ℕ) (d : PlacedName) → slice_index_or behind k d ≡ slice_index_or names (from + k) d
    at_behind k d = ap (λ l. slice_index_or l k d) is ∙ get_or-drop from names k d

    size : length behind ≡ length names - from
    size = ap length is ∙ length-drop from names

    -- and what isn't before it is of that name up to some place
    pub parted_same : IsPartitionedBy (λ n. str_eq_ignore_ascii_case name n.name.now) behind
    parted_same i j d l m e =
        let one = slice_index_or behind i d in
        let other = slice_index_or behind j d in
        let up : ordering_index (order_of one) ≤ ordering_index (order_of other) =
        rw (at_behind i d, at_behind j d) (rising (from + i) (from + j) d (omega arith) (omega (arith, size))) in
        let not_less = ap (λ n. is_lt (order_of n)) (at_behind i d) ∙ less.1 (from + i) d (omega arith) (omega (arith, size)) in
        sym (order_same one.name.now name) ∙ equal_below (order_of one) (order_of other) up not_less (order_same other.name.now name ∙ e)

    module _ (count : ℕ) (few : count ≤ length behind)
        (same : IsPartitionPoint (λ n. str_eq_ignore_ascii_case name n.name.now ≡ true)
        (λ n. str_eq_ignore_ascii_case name n.name.now ≡ false) behind count) where
      -- a field of the name has its place there
      has_one : (i j : ℕ) (d : PlacedName) → j < length names → (slice_index_or names j d).place ≡ i
          → str_eq_ignore_ascii_case name (slice_index_or names j d).name.now ≡ true
          → has_place i (take count behind) ≡ true
      has_one i j d l at e = elim (cases_lt j from) [
        | inl before ↦ (
            let n = slice_index_or names j d in
            absurd (less_or_equal (order_of n) (less.0 j d (omega arith) before) (order_same n.name.now name ∙ e)))
        | inr past ↦ (
            let there : from + (j - from) ≡ j = omega arith in
            let one : slice_index_or behind (j - from) d ≡ slice_index_or names j d =
            at_behind (j - from) d ∙ ap (λ k. slice_index_or names k d) there in
            elim (cases_lt (j - from) count) [
              | inl within ↦ list_any_at (λ n. n.place == i) (take count behind) (j - from) d
                  (omega (arith, length-take-le count behind few))
                  (eq-eqb (slice_index_or (take count behind) (j - from) d).place i
                  (ap (λ n. n.place) (get_or-take count behind (j - from) d within ∙ one) ∙ at))
              | inr above ↦ absurd (both_ways (str_eq_ignore_ascii_case name (slice_index_or names j d).name.now)
                  (sym (ap (λ n. str_eq_ignore_ascii_case name n.name.now) one) ∙ same.1 (j - from) d above (omega (arith, size))) e)
            ])
      ]

      -- another field has none
      has_none : (i : ℕ) → str_eq_ignore_ascii_case name (name_at fields i) ≡ false → has_place i (take count behind) ≡ false
      has_none i other = list_any_none (λ n. n.place == i) (take count behind) (λ k d l.
          let within : k < count = omega (arith, length-take-le count behind few) in
          let one : slice_index_or (take count behind) k d ≡ slice_index_or names (from + k) d =
          get_or-take count behind k d within ∙ at_behind k d in
          let n = slice_index_or names (from + k) d in
          let is_named = (placed.have.places (from + k) d (omega (arith, size))).1 in
          let is_same : str_eq_ignore_ascii_case name n.name.now ≡ true =
          sym (ap (λ m. str_eq_ignore_ascii_case name m.name.now) (at_behind k d)) ∙ same.0 k d (omega arith) within in
          ap (λ m. m.place == i) one ∙ ne_eqb n.place i (λ e. both_ways (str_eq_ignore_ascii_case name n.name.now)
          (ap (str_eq_ignore_ascii_case name) (is_named ∙ ap (name_at fields) e) ∙ other) is_same))

      pub run_has : (i : ℕ) → i < length fields → has_place i (take count behind) ≡ str_eq_ignore_ascii_case name (name_at fields i)
      run_has i l =
          let one = placed.have.all i l in
          let n = one.0 in
          let j = one.1.0 in
          let at : (slice_index_or names j n).place ≡ i = ap (λ m. m.place) one.1.2 ∙ one.2 in
          let is_named : (slice_index_or names j n).name.now ≡ name_at fields i =
          (placed.have.places j n one.1.1).1 ∙ ap (name_at fields) at in
          elim (cases_Bool (str_eq_ignore_ascii_case name (name_at fields i))) [
            | inl is ↦ has_one i j n one.1.1 at (ap (str_eq_ignore_ascii_case name) is_named ∙ is) ∙ sym is
            | inr other ↦ has_none i other ∙ sym other
          ]

-- where one field of the name is marked, all are
alike_marked : (fields : List (List ℕ × List ℕ)) (named : List Bool) (name : List ℕ) (p : ℕ) → AreAlike fields named → p < length fields
    → str_eq_ignore_ascii_case name (name_at fields p) ≡ true → slice_index_or named p false ≡ true
    → Marks (λ other. str_eq_ignore_ascii_case name other) fields named named
alike_marked fields named name p alike l same marked = record {
  size = refl;
  each = λ i m _. elim (cases_Bool (str_eq_ignore_ascii_case name (name_at fields i))) [
    | inl also ↦ (
        let on = sym (alike p i l m (sym (same_as name (name_at fields p) (name_at fields i) same) ∙ also)) ∙ marked in
        on ∙ sym (or_left (slice_index_or named i false) (str_eq_ignore_ascii_case name (name_at fields i)) on))
    | inr other ↦ sym (or_false (slice_index_or named i false)) ∙ ap (λ b. slice_index_or named i false || b) (sym other)
  ];
}

-- where the first of these names is marked and a name's fields are those that come first, all of its fields are marked
pub front_marked : (fields : List (List ℕ × List ℕ)) (named : List Bool) (names : List PlacedName) (name : List ℕ) (d : PlacedName)
    → AreAlike fields named
    → All (λ n. n.place < length fields) names → ((i : ℕ) → i < length fields
    → has_place i (run_of name names) ≡ str_eq_ignore_ascii_case name (name_at fields i))
    → 0 < length names → slice_index_or named (slice_index_or names 0 d).place false ≡ true
    → Marks (λ other. str_eq_ignore_ascii_case name other) fields named named
front_marked fields named [] name d alike within front some marked = absurd (omega arith)
front_marked fields named (n ∷ names) name d alike within front some marked =
    let l : n.place < length fields = within 0 n some in
    elim (cases_Bool (str_eq_ignore_ascii_case name n.name.now)) [
      | inl is ↦ (
          let test = λ (m : PlacedName). str_eq_ignore_ascii_case name m.name.now in
          let some_run : prefix_len test (n ∷ names) ≡ 1 + prefix_len test names = rw is refl in
          let has : has_place n.place (run_of name (n ∷ names)) ≡ true =
          list_any_at (λ m. m.place == n.place) (run_of name (n ∷ names)) 0 n (omega (arith, length-prefix_len test (n ∷ names), some_run))
          (eq-eqb (slice_index_or (run_of name (n ∷ names)) 0 n).place n.place
          (ap (λ m. m.place) (get_or-take (prefix_len test (n ∷ names)) (n ∷ names) 0 n (omega (arith, some_run))))) in
          alike_marked fields named name n.place alike l (sym (front n.place l) ∙ has) marked)
      | inr other ↦ record {
        size = refl;
        each = λ i m _.
            let none : has_place i (run_of name (n ∷ names)) ≡ false = rw other refl in
            sym (or_false (slice_index_or named i false)) ∙ ap (λ b. slice_index_or named i false || b) (sym none ∙ front i m);
      }
    ]

-- which names come first, by how many there are
pub run_is : (names : List PlacedName) (name : List ℕ) (k : ℕ) (d : PlacedName) → k ≤ length names
    → ((j : ℕ) (e : PlacedName) → j < k → str_eq_ignore_ascii_case name (slice_index_or names j e).name.now ≡ true)
    → (k < length names → str_eq_ignore_ascii_case name (slice_index_or names k d).name.now ≡ false) → run_of name names ≡ take k names
run_is names name k d l passes stops = ap (λ n. take n names) (prefix_len_is (λ n. str_eq_ignore_ascii_case name n.name.now) names k d l
    (λ j m. passes j d m) stops)

-- where all names are this one, the first that are it are all of them
pub run_all : (names : List PlacedName) (name : List ℕ)
    → ((j : ℕ) (e : PlacedName) → j < length names → str_eq_ignore_ascii_case name (slice_index_or names j e).name.now ≡ true)
    → run_of name names ≡ names
run_all [] name passes = refl
run_all (n ∷ names) name passes =
    run_is (n ∷ names) name (length (n ∷ names)) n (omega arith) passes (λ m. absurd (omega arith))
    ∙ take_all (length (n ∷ names)) (n ∷ names) (omega arith)

-- a sort keeps the names and their places
pub have_sorted : (fields : List (List ℕ × List ℕ)) (xs ys : List PlacedName) → IsPermutation xs ys → HavePlaces fields xs
    → HavePlaces fields ys
have_sorted fields xs ys p h = record {
  places = All-permutation (λ n. (n.place < length fields) × (n.name.now ≡ name_at fields n.place)) xs ys p h.places;
  all = λ i l. let one = h.all i l in (one.0, Contains-permutation xs ys one.0 p one.1, one.2);
}

-- what a slice's owner holds after a write of as many
pub refilled : (xs ys : List PlacedName) → length ys ≡ length xs → refill (length xs) xs ys ≡ ys
refilled xs ys e = rw (drop_of_length-le xs {i = length ys} (omega arith), append-nil ys) (take_all (length xs) ys (omega arith))

-- one more name
module _ (names : List PlacedName) (at : ℕ) (n : PlacedName) where
  -- where each place so far has a name, and the next one gets a name, each place up to that one has a name
  pub all_more : ((i : ℕ) → i < at → (m : PlacedName) × Contains names m × (m.place ≡ i)) → n.place ≡ at
      → (i : ℕ) → i < at + 1 → (m : PlacedName) × Contains (names ++ n ∷ []) m × (m.place ≡ i)
  all_more before e i l = elim (cases_lt i at) [
    | inl below ↦ (let one = before i below in (one.0, Contains-append_left names (n ∷ []) one.0 one.1, one.2))
    | inr past ↦ (n, Contains-push names n, e ∙ omega arith)
  ]
