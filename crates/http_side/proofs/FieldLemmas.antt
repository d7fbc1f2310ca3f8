-- What one more field adds to the values of a name.
use Rattle.std.proofs.Common.{◌≡◌, ℕ, ◌+◌, ◌<◌, true, List, [], ◌∷◌, ◌++◌, length, map, take, drop, refl, sym, ap, ◌∙◌, arith}
use Rattle.std.proofs.Common.{length-append, lt-ltb, nat_lt}
use Rattle.std.proofs.lemmas.List.{map-append, take-append-drop}
use Rattle.std.proofs.lemmas.List.Elements.{filter-append, filter_more}
use Rattle.std.specs.Str.{str_eq_ignore_ascii_case}
use Rattle.adapt_bytes.specs.Fields.{values_of, name_at, value_at}
use Rattle.http_side.specs.declared.fields.Values.{Values}
use Rattle.http_side.specs.declared.fields.Values.TheVariants.{None as NoValue, One, Many}
use Rattle.http_side.specs.Fields.{IsValues}

-- with one more field of that name
pub values-more : (name : List ℕ) (fields : List (List ℕ × List ℕ)) (i : ℕ) → i < length fields
    → str_eq_ignore_ascii_case (name_at fields i) name ≡ true
    → values_of name (take (i + 1) fields) ≡ values_of name (take i fields) ++ value_at fields i ∷ []
values-more name fields i l e =
    ap (map (λ f. f.1)) (filter_more (λ f. str_eq_ignore_ascii_case f.0 name) fields i ([], []) l) ∙ rw e (map-append (λ f. f.1) _ _)

-- the values of the first fields come first
pub values-front : (name : List ℕ) (fields : List (List ℕ × List ℕ)) (i : ℕ)
    → values_of name fields ≡ values_of name (take i fields) ++ values_of name (drop i fields)
values-front name fields i =
    ap (values_of name) (sym (take-append-drop i fields)) ∙ ap (map (λ f. f.1))
    (filter-append (λ f. str_eq_ignore_ascii_case f.0 name) (take i fields) (drop i fields)) ∙ map-append (λ f. f.1) _ _

-- a look-up that isn't none has at least one value
some_values : (values : List (List ℕ)) (v : Values) → IsValues values v → (v ≡ NoValue → ⊥) → 0 < length values
some_values values NoValue is some = absurd (some refl)
some_values values (One value) is some = rw is (omega arith)
some_values values Many is some = omega arith

-- a field of that name is found
pub has_value : (name : List ℕ) (fields : List (List ℕ × List ℕ)) (i : ℕ) → i < length fields
    → str_eq_ignore_ascii_case (name_at fields i) name ≡ true → true ≡ nat_lt 0 (length (values_of name fields))
has_value name fields i l e =
    let more = ap length (values-more name fields i l e) in
    let all = ap length (values-front name fields (i + 1)) in
    let some : 0 < length (values_of name fields) = omega (
      arith,
      more,
      all,
      length-append (values_of name (take i fields)) (value_at fields i ∷ []),
      length-append (values_of name (take (i + 1) fields)) (values_of name (drop (i + 1) fields)),
    ) in
    sym (lt-ltb 0 (length (values_of name fields)) some)

-- a value after another makes more than one
pub second_value : (name : List ℕ) (fields : List (List ℕ × List ℕ)) (i : ℕ) (v : Values) → i < length fields
    → str_eq_ignore_ascii_case (name_at fields i) name ≡ true
    → IsValues (values_of name (take i fields)) v → (v ≡ NoValue → ⊥) → 1 < length (values_of name fields)
second_value name fields i v l e is some =
    let front = some_values _ v is some in
    let more = ap length (values-more name fields i l e) in
    let all = ap length (values-front name fields (i + 1)) in
    omega (
      arith,
      length-append (values_of name (take i fields)) (value_at fields i ∷ []),
      length-append (values_of name (take (i + 1) fields)) (values_of name (drop (i + 1) fields)),
    )
