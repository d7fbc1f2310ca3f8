-- A field that ends here is in no head that goes on.
use Rattle.std.proofs.Common.{◌≡◌, ℕ, Bool, true, false, not, ◌||◌, ◌&&◌, List, [], ◌∷◌, ◌++◌, length, map, Some, refl, sym, ap, ◌∙◌, inl}
use Rattle.std.proofs.Common.{inr}
use Rattle.std.specs.Prelude.{codes}
use Rattle.std.specs.List.{list_any, filter}
use Rattle.std.specs.Str.{str_to_ascii_lowercase, str_eq_ignore_ascii_case}
use Rattle.std.proofs.lemmas.Bool.{cases_Bool}
use Rattle.std.proofs.lemmas.Slice.Eq.{bytes_eq-Decides}
use Rattle.adapt_bytes.specs.Text.{comma_items, has_item}
use Rattle.adapt_bytes.specs.Fields.{values_of}
use Rattle.http_side.specs.Heads.{RequestParts, ResponseParts, count_of, both_lengths}
use Rattle.http_side.specs.declared.writing.Beside.{Beside}
use Rattle.http_side.specs.Forward.{hop_names, framing_names, is_named_by, is_removed, stays, kept_fields, has_host, hosted, when}
use Rattle.http_side.specs.Forward.{request_fields, response_fields}
use Rattle.http_side.proofs.Passing.{same_as, among_as, values-append, values-gone, values-hosted, once-none}

-- of two names equal but for case both are items of some values, or neither is
named_same : (values : List (List ℕ)) (a b : List ℕ) → str_eq_ignore_ascii_case a b ≡ true
    → list_any (has_item a) values ≡ list_any (has_item b) values
named_same [] a b e = refl
named_same (v ∷ values) a b e = rw (among_as (comma_items v) a b e, named_same values a b e) refl

-- whether a field ends here is the same where the five tests for it are
same_test : (p q h i x y l m g f n o : Bool) → h ≡ i → x ≡ y → l ≡ m → g ≡ f → n ≡ o
    → (h || ((p && x) || ((q && l) || (not g && n)))) ≡ (i || ((p && y) || ((q && m) || (not f && o))))
same_test p q h i x y l m g f n o a b c d e = rw (a, b, c, d, e) refl

-- whatever the case of its name, a field ends here or goes on
removed_as : (beside : Beside) (fields : List (List ℕ × List ℕ)) (a b : List ℕ) → str_eq_ignore_ascii_case a b ≡ true
    → is_removed beside fields a ≡ is_removed beside fields b
removed_as beside fields a b e =
    let named : is_named_by fields a ≡ is_named_by fields b = named_same (values_of (codes "connection") fields) a b e in
    same_test beside.expect beside.length _ _ _ _ _ _ _ _ _ _ (among_as hop_names a b e) (same_as a b (codes "expect") e)
    (same_as a b (codes "content-length") e) (among_as framing_names a b e) named

-- a name that ends here has no values among the fields that go on
kept_none : (beside : Beside) (fields : List (List ℕ × List ℕ)) (name : List ℕ) → is_removed beside fields name ≡ true
    → values_of name (kept_fields beside fields) ≡ []
kept_none beside fields name e = once-none name false (filter (stays beside fields) fields)
    (values-gone name (stays beside fields) fields (λ f same. ap not (removed_as beside fields f.0 name same ∙ e)))

-- a request's Host isn't removed
host_stays : (fields : List (List ℕ × List ℕ)) → is_removed (record { expect = true; length = false }) fields (codes "host") ≡ false
host_stays fields = refl

-- Host always goes on
no_host : (fields : List (List ℕ × List ℕ)) (name : List ℕ) → is_removed (record { expect = true; length = false }) fields name ≡ true
    → str_eq_ignore_ascii_case name (codes "host") ≡ false
no_host fields name e = elim (cases_Bool (str_eq_ignore_ascii_case name (codes "host"))) [
  | inl same ↦ absurd (let x : true ≡ false = sym e ∙ removed_as (record { expect = true; length = false }) fields name (codes "host") same
      ∙ host_stays fields in cc)
  | inr differ ↦ differ
]

-- the Host that may be added gives no value to a name that isn't Host
added_host : (b : Bool) (authority name : List ℕ) → str_eq_ignore_ascii_case (codes "Host") name ≡ false
    → values_of name (when b (codes "Host", authority)) ≡ []
added_host true authority name e = rw e refl
added_host false authority name e = refl

-- where a name isn't another but for case, the other isn't it either
turned : (a b : List ℕ) → str_eq_ignore_ascii_case a b ≡ false → str_eq_ignore_ascii_case b a ≡ false
turned a b e = elim (cases_Bool (str_eq_ignore_ascii_case b a)) [
  | inl same ↦ absurd (
      let is : str_to_ascii_lowercase b ≡ str_to_ascii_lowercase a =
      (bytes_eq-Decides (str_to_ascii_lowercase b) (str_to_ascii_lowercase a)).0 same in
      let x : true ≡ false = sym ((bytes_eq-Decides (str_to_ascii_lowercase a) (str_to_ascii_lowercase b)).1 (sym is)) ∙ e in cc)
  | inr differ ↦ differ
]

-- a request that goes on has no field of a name that ends here
pub request_loses : (r : RequestParts) (authority name : List ℕ)
    → is_removed (record { expect = true; length = false }) r.fields name ≡ true → count_of name (request_fields authority r.fields) ≡ 0
request_loses r authority name e =
    let b : Beside = record { expect = true; length = false } in
    let other = no_host r.fields name e in
    ap length (values-append name (when (not (has_host r.fields)) (codes "Host", authority))
    (map (hosted (Some authority)) (kept_fields b r.fields))
    ∙ ap (λ t. t ++ values_of name (map (hosted (Some authority)) (kept_fields b r.fields)))
    (added_host (not (has_host r.fields)) authority name (let x : str_eq_ignore_ascii_case (codes "host") name
    ≡ false = turned name (codes "host") other in x))
    ∙ values-hosted name (Some authority) (kept_fields b r.fields) other ∙ kept_none b r.fields name e)

-- a response that goes on has no field of a name that ends here
pub response_loses : (r : ResponseParts) (name : List ℕ)
    → is_removed (record { expect = false; length = both_lengths r.fields }) r.fields name ≡ true
    → count_of name (response_fields r.fields) ≡ 0
response_loses r name e = ap length (kept_none (record { expect = false; length = both_lengths r.fields }) r.fields name e)
