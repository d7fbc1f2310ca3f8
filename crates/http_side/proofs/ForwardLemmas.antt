-- The fields that go on, one field at a time.
use Rattle.std.proofs.Common.{◌≡◌, ℕ, ◌+◌, ◌<◌, Bool, true, false, not, ◌||◌, ◌&&◌, List, [], ◌∷◌, ◌++◌, ◌≤◌, Option, get_or, length, map}
use Rattle.std.proofs.Common.{take, drop, None, refl, sym, ap, ◌∙◌, append_assoc}
use Rattle.std.specs.Prelude.{codes, if◌then◌else◌}
use Rattle.std.specs.List.{list_any, filter, flat_map}
use Rattle.std.proofs.lemmas.List.{append-nil}
use Rattle.std.proofs.lemmas.List.Elements.{filter_more}
use Rattle.std.proofs.lemmas.List.Concat.{flat_map-append}
use Rattle.std.proofs.lemmas.List.Folds.{length-flat_map-take}
use Rattle.std.specs.Str.{str_eq_ignore_ascii_case}
use Rattle.adapt_bytes.specs.Fields.{values_of, field_at, name_at, value_at}
use Rattle.adapt_bytes.specs.Text.{has_item}
use Rattle.http_side.specs.Forward.{is_named_by, stays, is_length, once, hosted, sent_fields, field_line, field_lines}
use Rattle.http_side.specs.declared.writing.Beside.{Beside}
use Rattle.http_side.proofs.FieldLemmas.{values-more, values-front}

-- an element of two joined lists passes a test just where one of either list does
any-append : {X : Type 0} (p : X → Bool) (xs ys : List X) → list_any p (xs ++ ys) ≡ (list_any p xs || list_any p ys)
any-append p [] ys = refl
any-append p (x ∷ xs) ys = ap (λ b. p x || b) (any-append p xs ys) ∙ sym (or_assoc (p x) (list_any p xs) (list_any p ys))
  where
    or_assoc : (a b c : Bool) → ((a || b) || c) ≡ (a || (b || c))
    or_assoc true b c = refl
    or_assoc false b c = refl

-- anything or true is true
or_true : (a : Bool) → (a || true) ≡ true
or_true true = refl
or_true false = refl

-- anything or false is itself
pub or_false : (a : Bool) → (a || false) ≡ a
or_false true = refl
or_false false = refl

-- a value of Connection names it
abbrev names : List ℕ → List ℕ → Bool
names name value = has_item name value

-- a name that is an item of one Connection field is named by Connection
pub named_here : (fields : List (List ℕ × List ℕ)) (name : List ℕ) (i : ℕ) → i < length fields
    → str_eq_ignore_ascii_case (name_at fields i) (codes "connection") ≡ true
    → has_item name (value_at fields i) ≡ true → is_named_by fields name ≡ true
named_here fields name i l e n =
    ap (list_any (names name)) (values-front (codes "connection") fields (i + 1))
    ∙ any-append (names name) (values_of (codes "connection") (take (i + 1) fields)) (values_of (codes "connection") (drop (i + 1) fields))
    ∙ ap (λ vs. list_any (names name) vs || list_any (names name) (values_of (codes "connection") (drop (i + 1) fields)))
    (values-more (codes "connection") fields i l e)
    ∙ ap (λ b. b || list_any (names name) (values_of (codes "connection") (drop (i + 1) fields)))
    (any-append (names name) (values_of (codes "connection") (take i fields)) (value_at fields i ∷ [])
    ∙ ap (λ b. list_any (names name) (values_of (codes "connection") (take i fields)) || (b || false)) n ∙ or_true _)

-- one field after those that go on
pub once-more : (seen : Bool) (xs : List (List ℕ × List ℕ)) (f : List ℕ × List ℕ)
    → once seen (xs ++ f ∷ []) ≡ once seen xs ++ (if is_length f && (seen || list_any is_length xs) then [] else f ∷ [])
once-more seen [] f = rw (or_false seen) refl
once-more seen (x ∷ xs) f = by_test (λ s. once-more s xs f) (is_length x && seen) refl
  where
    skip : (a s t : Bool) → (a && s) ≡ true → (s || (a || t)) ≡ (s || t)
    skip true true t e = refl
    skip true false t e = absurd (let g : false ≡ true = e in cc)
    skip false s t e = absurd (let g : false ≡ true = e in cc)

    keep : (a s t : Bool) → ((s || a) || t) ≡ (s || (a || t))
    keep a true t = refl
    keep a false t = refl

    by_test : ((s : Bool) → once s (xs ++ f ∷ []) ≡ once s xs ++ (if is_length f && (s || list_any is_length xs) then [] else f ∷ []))
        → (b : Bool) → (is_length x && seen) ≡ b
        → once seen ((x ∷ xs) ++ f ∷ []) ≡ once seen (x ∷ xs) ++ (if is_length f && (seen || list_any is_length (x ∷ xs)) then [] else f ∷
        [])
    by_test more true e = rw (e, skip (is_length x) seen (list_any is_length xs) e) (more seen)
    by_test more false e = rw (e, ← keep (is_length x) seen (list_any is_length xs)) (ap (λ ys. x ∷ ys) (more (seen || is_length x)))

module _ (beside : Beside) (fields : List (List ℕ × List ℕ)) (i : ℕ) (l : i < length fields) where
  -- the fields that stay, up to the next one
  so_far : List (List ℕ × List ℕ)
  so_far = filter (stays beside fields) (take i fields)

  -- a next field that stays comes after those that stay of the fields before it
  pub stays-more : stays beside fields (field_at fields i) ≡ true
      → filter (stays beside fields) (take (i + 1) fields) ≡ filter (stays beside fields) (take i fields) ++ field_at fields i ∷ []
  stays-more e = filter_more (stays beside fields) fields i ([], []) l ∙ rw e refl

  -- a next field that doesn't stay adds nothing to those that stay
  pub stays-same : stays beside fields (field_at fields i) ≡ false
      → filter (stays beside fields) (take (i + 1) fields) ≡ filter (stays beside fields) (take i fields)
  stays-same e = filter_more (stays beside fields) fields i ([], []) l ∙ rw e (append-nil _)

  -- a further length doesn't go on
  pub length_again : stays beside fields (field_at fields i) ≡ true → is_length (field_at fields i) ≡ true
      → list_any is_length (filter (stays beside fields) (take i fields)) ≡ true
      → (once false (filter (stays beside fields) (take (i + 1) fields)) ≡ once false (filter (stays beside fields) (take i fields)))
      × (list_any is_length (filter (stays beside fields) (take (i + 1) fields)) ≡ true)
  length_again e n seen = (
    ap (once false) (stays-more e) ∙ once-more false (filter (stays beside fields) (take i fields)) (field_at fields i)
        ∙ rw (n, seen) (append-nil _),
    ap (list_any is_length) (stays-more e) ∙ any-append is_length (filter (stays beside fields) (take i fields)) (field_at fields i ∷ [])
        ∙ rw seen refl,
  )

  -- another field goes on
  pub goes_on : stays beside fields (field_at fields i) ≡ true
      → (is_length (field_at fields i) && list_any is_length (filter (stays beside fields) (take i fields))) ≡ false
      → (once false (filter (stays beside fields) (take (i + 1) fields)) ≡ once false (filter (stays beside fields) (take i fields))
      ++ field_at fields i ∷ [])
      × (list_any is_length (filter (stays beside fields) (take (i + 1) fields))
      ≡ (list_any is_length (filter (stays beside fields) (take i fields)) || is_length (field_at fields i)))
  goes_on e n = (
    ap (once false) (stays-more e) ∙ once-more false (filter (stays beside fields) (take i fields)) (field_at fields i) ∙ rw n refl,
    ap (list_any is_length) (stays-more e) ∙ any-append is_length (filter (stays beside fields) (take i fields)) (field_at fields i ∷ [])
        ∙ ap (λ b. list_any is_length (filter (stays beside fields) (take i fields)) || b) (or_false (is_length (field_at fields i))),
  )

-- where it is false that a field is removed, it stays
pub not_removed : {removed : Bool} → removed ≡ false → not removed ≡ true
not_removed e = rw e refl

-- what the length before and this field say of the next
pub first_length : (n old new : Bool) → n ≡ true → old ≡ false → new ≡ true → ((n && old) ≡ false) × ((old || n) ≡ new)
first_length n old new e f g = (rw (e, f) refl, rw (e, f, g) refl)

-- a field that is no length is no second one, and a length was seen as before
pub no_length : (n old new : Bool) → n ≡ false → new ≡ old → ((n && old) ≡ false) × ((old || n) ≡ new)
no_length n old new e g = (rw e refl, rw (e, g) (or_false old))

-- the lines of two lists of fields, joined, are those of the first and then of the second
pub lines-append : (xs ys : List (List ℕ × List ℕ)) → field_lines (xs ++ ys) ≡ field_lines xs ++ field_lines ys
lines-append xs ys = flat_map-append field_line xs ys

-- the parts of a head, one after the other
pub head_parts : (first : List ℕ) (a b c : List (List ℕ × List ℕ)) (last : List ℕ)
    → (((([] ++ (first ++ last)) ++ field_lines a) ++ field_lines b) ++ field_lines c) ++ last
    ≡ ((first ++ last) ++ field_lines ((a ++ b) ++ c)) ++ last
head_parts first a b c last = simp (lines-append, append_assoc) refl

-- a response's fields go on as they are
pub as_they_are : (xs : List (List ℕ × List ℕ)) → map (hosted None) xs ≡ xs
as_they_are [] = refl
as_they_are (x ∷ xs) = ap (λ t. x ∷ t) (as_they_are xs)

-- the parts of a response's head, put one after the other, are its head with its fields unchanged
pub response_parts : (first : List ℕ) (b c : List (List ℕ × List ℕ)) (last : List ℕ)
    → ((([] ++ (first ++ last)) ++ field_lines (map (hosted None) b)) ++ field_lines c) ++ last ≡ ((first ++ last) ++ field_lines (b ++ c))
    ++ last
response_parts first b c last = rw (as_they_are b) (simp (lines-append, append_assoc) refl)

-- the lines of the fields at these places, place by place
flat : (fields : List (List ℕ × List ℕ)) (authority : Option (List ℕ)) (places : List ℕ)
    → field_lines (sent_fields fields places authority) ≡ flat_map (λ at. field_line (hosted authority (field_at fields at))) places
flat fields authority [] = refl
flat fields authority (at ∷ places) = ap (λ t. field_line (hosted authority (field_at fields at)) ++ t) (flat fields authority places)

-- where there is room for all lines, there is room for the next one
pub next_fits : (fields : List (List ℕ × List ℕ)) (authority : Option (List ℕ)) (places : List ℕ) (i d : ℕ) → i < length places
    → length (field_lines (sent_fields fields (take i places) authority)) + length
    (field_line (hosted authority (field_at fields (get_or places i d))))
    ≤ length (field_lines (sent_fields fields places authority))
next_fits fields authority places i d l =
    rw (flat fields authority (take i places), flat fields authority places)
    (length-flat_map-take (λ at. field_line (hosted authority (field_at fields at))) places i d l)
