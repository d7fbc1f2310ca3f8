-- What goes on of a head's fields, and what doesn't.
use Rattle.std.proofs.Common.{◌≡◌, ℕ, inl, inr, Bool, true, false, not, ◌||◌, ◌&&◌, List, [], ◌∷◌, ◌++◌, map, take, drop, Option, Some}
use Rattle.std.proofs.Common.{None, refl, sym, ap, ◌∙◌}
use Rattle.std.specs.Prelude.{codes, bytes_eq}
use Rattle.std.specs.List.{filter}
use Rattle.std.specs.Str.{str_to_ascii_lowercase, str_eq_ignore_ascii_case}
use Rattle.std.proofs.lemmas.Bool.{cases_Bool}
use Rattle.std.proofs.lemmas.Slice.Eq.{bytes_eq-Decides}
use Rattle.std.proofs.lemmas.List.{map-append}
use Rattle.std.proofs.lemmas.List.Elements.{filter-append}
use Rattle.adapt_bytes.specs.Text.{is_among}
use Rattle.adapt_bytes.specs.Fields.{values_of}
use Rattle.http_side.specs.declared.writing.Beside.{Beside}
use Rattle.http_side.specs.Forward.{hop_names, framing_names, is_named_by, stays, is_length, once, kept_fields, hosted, host_line}

-- names that are one have the same of others
pub same_as : (a b c : List ℕ) → str_eq_ignore_ascii_case a b ≡ true → str_eq_ignore_ascii_case a c ≡ str_eq_ignore_ascii_case b c
same_as a b c e = ap (λ t. bytes_eq t (str_to_ascii_lowercase c)) ((bytes_eq-Decides (str_to_ascii_lowercase a)
    (str_to_ascii_lowercase b)).0 e)

-- of two names that are the same but for case, a third is the same as both or as neither, case ignored
same_to : (a b c : List ℕ) → str_eq_ignore_ascii_case a b ≡ true → str_eq_ignore_ascii_case c a ≡ str_eq_ignore_ascii_case c b
same_to a b c e = ap (λ t. bytes_eq (str_to_ascii_lowercase c) t) ((bytes_eq-Decides (str_to_ascii_lowercase a)
    (str_to_ascii_lowercase b)).0 e)

-- of two names that are equal but for case both are among some words, or neither is
pub among_as : (names : List (List ℕ)) (a b : List ℕ) → str_eq_ignore_ascii_case a b ≡ true → is_among names a ≡ is_among names b
among_as [] a b e = refl
among_as (n ∷ names) a b e = rw (same_to a b n e, among_as names a b e) refl

-- a first field of the name puts its value before the others
pub values-cons-same : (name : List ℕ) (f : List ℕ × List ℕ) (xs : List (List ℕ × List ℕ)) → str_eq_ignore_ascii_case f.0 name ≡ true
    → values_of name (f ∷ xs) ≡ f.1 ∷ values_of name xs
values-cons-same name f xs e = rw e refl

-- a first field of another name adds no value
pub values-cons-no : (name : List ℕ) (f : List ℕ × List ℕ) (xs : List (List ℕ × List ℕ)) → str_eq_ignore_ascii_case f.0 name ≡ false
    → values_of name (f ∷ xs) ≡ values_of name xs
values-cons-no name f xs e = rw e refl

-- the values of a name in two joined lists are those of the first and then of the second
pub values-append : (name : List ℕ) (xs ys : List (List ℕ × List ℕ)) → values_of name (xs ++ ys) ≡ values_of name xs ++ values_of name ys
values-append name xs ys = ap (map (λ f. f.1)) (filter-append (λ f. str_eq_ignore_ascii_case f.0 name) xs ys) ∙ map-append (λ f. f.1) _ _

-- where each field of the name stays, its values stay
pub values-kept : (name : List ℕ) (test : List ℕ × List ℕ → Bool) (xs : List (List ℕ × List ℕ))
    → ((f : List ℕ × List ℕ) → str_eq_ignore_ascii_case f.0 name ≡ true → test f ≡ true)
    → values_of name (filter test xs) ≡ values_of name xs
values-kept name test [] all = refl
values-kept name test (f ∷ xs) all = elim (cases_Bool (str_eq_ignore_ascii_case f.0 name)) [
  | inl same ↦ ap (values_of name) (let e : filter test (f ∷ xs) ≡ f ∷ filter test xs = rw (all f same) refl in e)
      ∙ values-cons-same name f (filter test xs) same ∙ ap (λ t. f.1 ∷ t) (values-kept name test xs all)
      ∙ sym (values-cons-same name f xs same)
  | inr differ ↦ elim (cases_Bool (test f)) [
    | inl on ↦ ap (values_of name) (let e : filter test (f ∷ xs) ≡ f ∷ filter test xs = rw on refl in e)
        ∙ values-cons-no name f (filter test xs) differ ∙ values-kept name test xs all ∙ sym (values-cons-no name f xs differ)
    | inr off ↦ ap (values_of name) (let e : filter test (f ∷ xs) ≡ filter test xs = rw off refl in e)
        ∙ values-kept name test xs all ∙ sym (values-cons-no name f xs differ)
  ]
]

-- where none stays, none is left
pub values-gone : (name : List ℕ) (test : List ℕ × List ℕ → Bool) (xs : List (List ℕ × List ℕ))
    → ((f : List ℕ × List ℕ) → str_eq_ignore_ascii_case f.0 name ≡ true → test f ≡ false) → values_of name (filter test xs) ≡ []
values-gone name test [] none = refl
values-gone name test (f ∷ xs) none = elim (cases_Bool (test f)) [
  | inl on ↦ elim (cases_Bool (str_eq_ignore_ascii_case f.0 name)) [
    | inl same ↦ absurd (let x : true ≡ false = sym on ∙ none f same in cc)
    | inr differ ↦ ap (values_of name) (let e : filter test (f ∷ xs) ≡ f ∷ filter test xs = rw on refl in e)
        ∙ values-cons-no name f (filter test xs) differ ∙ values-gone name test xs none
  ]
  | inr off ↦ ap (values_of name) (let e : filter test (f ∷ xs) ≡ filter test xs = rw off refl in e) ∙ values-gone name test xs none
]

abbrev pub LENGTH : List ℕ
LENGTH = codes "content-length"

abbrev pub CODING : List ℕ
CODING = codes "transfer-encoding"

-- a length is dropped where one was seen before
once-skip : (seen : Bool) (f : List ℕ × List ℕ) (xs : List (List ℕ × List ℕ)) → is_length f ≡ true → seen ≡ true
    → once seen (f ∷ xs) ≡ once seen xs
once-skip seen f xs e s = rw (e, s) refl

-- a field that is no second length is kept, and after it a length was seen where one was or it is one
once-keep : (seen : Bool) (f : List ℕ × List ℕ) (xs : List (List ℕ × List ℕ)) → (is_length f && seen) ≡ false
    → once seen (f ∷ xs) ≡ f ∷ once (seen || is_length f) xs
once-keep seen f xs e = rw e refl

-- anything and false is false
off_right : (b : Bool) → (b && false) ≡ false
off_right true = refl
off_right false = refl

-- of the lengths the first is left, or none where one was seen
pub once-seen : (xs : List (List ℕ × List ℕ)) → values_of LENGTH (once true xs) ≡ []
once-seen [] = refl
once-seen (f ∷ xs) = elim (cases_Bool (is_length f)) [
  | inl same ↦ ap (values_of LENGTH) (once-skip true f xs same refl) ∙ once-seen xs
  | inr differ ↦ ap (values_of LENGTH) (once-keep true f xs (rw differ refl)) ∙ values-cons-no LENGTH f (once true xs) differ ∙ once-seen xs
]

-- where no length was seen before, only the first of the lengths is left
pub once-first : (xs : List (List ℕ × List ℕ)) → values_of LENGTH (once false xs) ≡ take 1 (values_of LENGTH xs)
once-first [] = refl
once-first (f ∷ xs) = elim (cases_Bool (is_length f)) [
  | inl same ↦ ap (values_of LENGTH) (once-keep false f xs (off_right (is_length f)))
      ∙ values-cons-same LENGTH f (once (is_length f) xs) same
      ∙ ap (λ s. f.1 ∷ values_of LENGTH (once s xs)) same
      ∙ ap (λ t. f.1 ∷ t) (once-seen xs) ∙ ap (take 1) (sym (values-cons-same LENGTH f xs same))
  | inr differ ↦ ap (values_of LENGTH) (once-keep false f xs (off_right (is_length f)))
      ∙ values-cons-no LENGTH f (once (is_length f) xs) differ
      ∙ ap (λ s. values_of LENGTH (once s xs)) differ
      ∙ once-first xs ∙ ap (take 1) (sym (values-cons-no LENGTH f xs differ))
]

-- a name that isn't there isn't there afterwards
pub once-none : (name : List ℕ) (seen : Bool) (xs : List (List ℕ × List ℕ)) → values_of name xs ≡ [] → values_of name (once seen xs) ≡ []
once-none name seen [] e = refl
once-none name seen (f ∷ xs) e = elim (cases_Bool (str_eq_ignore_ascii_case f.0 name)) [
  | inl same ↦ absurd (let x : f.1 ∷ values_of name xs ≡ [] = sym (values-cons-same name f xs same) ∙ e in cc)
  | inr differ ↦
      let rest = sym (values-cons-no name f xs differ) ∙ e in
      elim (cases_Bool (is_length f && seen)) [
        | inl drop ↦ ap (values_of name) (let x : once seen (f ∷ xs) ≡ once seen xs = rw drop refl in x) ∙ once-none name seen xs rest
        | inr on ↦ ap (values_of name) (once-keep seen f xs on) ∙ values-cons-no name f (once (seen || is_length f) xs) differ
            ∙ once-none name (seen || is_length f) xs rest
      ]
]

-- a Host's value has no part in the other fields
pub values-hosted : (name : List ℕ) (authority : Option (List ℕ)) (xs : List (List ℕ × List ℕ))
    → str_eq_ignore_ascii_case name (codes "host") ≡ false
    → values_of name (map (hosted authority) xs) ≡ values_of name xs
values-hosted name authority [] off = refl
values-hosted name None (f ∷ xs) off = elim (cases_Bool (str_eq_ignore_ascii_case f.0 name)) [
  | inl same ↦ values-cons-same name f (map (hosted None) xs) same ∙ ap (λ t. f.1 ∷ t) (values-hosted name None xs off)
      ∙ sym (values-cons-same name f xs same)
  | inr differ ↦ values-cons-no name f (map (hosted None) xs) differ ∙ values-hosted name None xs off
      ∙ sym (values-cons-no name f xs differ)
]
values-hosted name (Some a) (f ∷ xs) off =
    let rest = values-hosted name (Some a) xs off in
    elim (cases_Bool (str_eq_ignore_ascii_case f.0 (codes "host"))) [
      | inl host ↦
          let here : host_line a f ≡ (f.0, a) = rw host refl in
          let differ : str_eq_ignore_ascii_case f.0 name ≡ false = elim (cases_Bool (str_eq_ignore_ascii_case f.0 name)) [
            | inl same ↦ absurd (let x : true ≡ false = sym host ∙ same_as f.0 name (codes "host") same ∙ off in cc)
            | inr differ ↦ differ
          ] in
          ap (λ g. values_of name (g ∷ map (hosted (Some a)) xs)) here ∙ values-cons-no name (f.0, a) (map (hosted (Some a)) xs) differ
          ∙ rest ∙ sym (values-cons-no name f xs differ)
      | inr other ↦
          let here : host_line a f ≡ f = rw other refl in
          elim (cases_Bool (str_eq_ignore_ascii_case f.0 name)) [
            | inl same ↦ ap (λ g. values_of name (g ∷ map (hosted (Some a)) xs)) here
                ∙ values-cons-same name f (map (hosted (Some a)) xs) same ∙ ap (λ t. f.1 ∷ t) rest ∙ sym (values-cons-same name f xs same)
            | inr differ ↦ ap (λ g. values_of name (g ∷ map (hosted (Some a)) xs)) here
                ∙ values-cons-no name f (map (hosted (Some a)) xs) differ ∙ rest ∙ sym (values-cons-no name f xs differ)
          ]
    ]

-- a length stays, unless the head loses it
length_stays : (expect : Bool) (fields : List (List ℕ × List ℕ)) (f : List ℕ × List ℕ) → str_eq_ignore_ascii_case f.0 LENGTH ≡ true
    → stays (record { expect = expect; length = false }) fields f ≡ true
length_stays expect fields f e =
    let hop : is_among hop_names f.0 ≡ false = among_as hop_names f.0 LENGTH e in
    let expects : str_eq_ignore_ascii_case f.0 (codes "expect") ≡ false = same_as f.0 LENGTH (codes "expect") e in
    let framing : is_among framing_names f.0 ≡ true = among_as framing_names f.0 LENGTH e in
    rw (hop, expects, framing) (ap not (both expect))
  where
    both : (b : Bool) → ((b && false) || (false || (false && is_named_by fields f.0))) ≡ false
    both true = refl
    both false = refl

-- a length doesn't stay where the head loses it
length_goes : (expect : Bool) (fields : List (List ℕ × List ℕ)) (f : List ℕ × List ℕ) → str_eq_ignore_ascii_case f.0 LENGTH ≡ true
    → stays (record { expect = expect; length = true }) fields f ≡ false
length_goes expect fields f e =
    let hop : is_among hop_names f.0 ≡ false = among_as hop_names f.0 LENGTH e in
    let expects : str_eq_ignore_ascii_case f.0 (codes "expect") ≡ false = same_as f.0 LENGTH (codes "expect") e in
    rw (hop, expects, e) (ap not (both expect))
  where
    both : (b : Bool) → ((b && false) || (true || (not (is_among framing_names f.0) && is_named_by fields f.0))) ≡ true
    both true = refl
    both false = refl

-- a Transfer-Encoding field never stays
coding_goes : (beside : Beside) (fields : List (List ℕ × List ℕ)) (f : List ℕ × List ℕ) → str_eq_ignore_ascii_case f.0 CODING ≡ true
    → stays beside fields f ≡ false
coding_goes beside fields f e =
    let hop : is_among hop_names f.0 ≡ true = among_as hop_names f.0 CODING e in
    rw hop refl

-- the first length goes on, or none does; no coding does
pub kept-length : (expect : Bool) (fields : List (List ℕ × List ℕ))
    → values_of LENGTH (kept_fields (record { expect = expect; length = false }) fields) ≡ take 1 (values_of LENGTH fields)
kept-length expect fields =
    let b : Beside = record { expect = expect; length = false } in
    once-first (filter (stays b fields) fields) ∙ ap (take 1) (values-kept LENGTH (stays b fields) fields (length_stays expect fields))

-- where a head loses its length, no length is among the fields that go on
pub kept-no_length : (expect : Bool) (fields : List (List ℕ × List ℕ))
    → values_of LENGTH (kept_fields (record { expect = expect; length = true }) fields) ≡ []
kept-no_length expect fields =
    let b : Beside = record { expect = expect; length = true } in
    once-none LENGTH false (filter (stays b fields) fields) (values-gone LENGTH (stays b fields) fields (length_goes expect fields))

-- no coding is among the fields that go on
pub kept-no_coding : (beside : Beside) (fields : List (List ℕ × List ℕ)) → values_of CODING (kept_fields beside fields) ≡ []
kept-no_coding beside fields = once-none CODING false (filter (stays beside fields) fields)
    (values-gone CODING (stays beside fields) fields (coding_goes beside fields))
