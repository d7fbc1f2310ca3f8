-- Names of fields, one after the other.
use Rattle.std.proofs.Common.{◌≡◌, ◌<◌, ◌+◌, ℕ, Bool, true, false, ◌||◌, List, [], ◌∷◌, ◌++◌, length, drop, get_or, map, nat_lt}
use Rattle.std.proofs.Common.{ltb-true, lt-ltb, String, Global, Option, Some, None, option_map, option_and_then, IfSome, IfNone, IsTrue}
use Rattle.std.proofs.Common.{string_bytes, refl, sym, ap, ◌∙◌}
use Rattle.std.proofs.lemmas.List.{drop_more, map-append}
use Rattle.std.proofs.lemmas.List.Sums.{AllPass-from_list_all, list_all-from_AllPass}
use Rattle.std.specs.List.{list_all}
use Rattle.std.specs.Str.{str_eq_ignore_ascii_case}
use Rattle.adapt_bytes.specs.Text.{IsToken, is_among, is_token_byte}
use Rattle.toml.specs.View.{view, items_view}
use Rattle.toml.specs.declared.value.Value.{Value}
use Rattle.proxy_config.specs.Carry.{is_field_name, name_in, names_after}
use Rattle.proxy_config.proofs.SameTexts.{both}

-- two truth values that each follow from the other are the same
same_truth : (r p : Bool) → (r ≡ true → p ≡ true) → (p ≡ true → r ≡ true) → r ≡ p
same_truth true true there back = refl
same_truth true false there back = sym (there refl)
same_truth false true there back = back refl
same_truth false false there back = refl

-- a name is a token just where its bytes are
pub token_name : (r : Bool) (name : List ℕ) → (IsTrue r → IsToken name) → (IsToken name → IsTrue r) → r ≡ is_field_name name
token_name r name there back =
    same_truth r (is_field_name name)
    (λ yes. let is = there yes in rw (lt-ltb 0 (length name) is.0, list_all-from_AllPass is_token_byte name is.1) refl)
    (λ yes. let two = both (nat_lt 0 (length name)) (list_all is_token_byte name) yes in
    back (ltb-true 0 (length name) two.0, AllPass-from_list_all is_token_byte name two.1))

-- the elements from a place on are the one there and those after it
at_place : {A : Type 0} (all : List A) (i : ℕ) (one : A) → i < length all → one ≡ get_or all i one → drop i all ≡ one ∷ drop (i + 1) all
at_place all i one inside is = drop_more all i one inside ∙ ap (λ a. a ∷ drop (i + 1) all) (sym is)

-- the name is one of these just where it is one of those from a place on
abbrev pub IsLeft : List (String Global) → List ℕ → ℕ → Type 0
IsLeft names name i = is_among (map string_bytes names) name ≡ is_among (map string_bytes (drop i names)) name

-- a name is one of those from a place on just where it is the one there or one of those after it
pub one_name : (names : List (String Global)) (name : List ℕ) (i : ℕ) (other : String Global) (same : Bool) → i < length names
    → other ≡ get_or names i other
    → same ≡ str_eq_ignore_ascii_case (string_bytes other) name
    → is_among (map string_bytes (drop i names)) name ≡ (same || is_among (map string_bytes (drop (i + 1) names)) name)
one_name names name i other same inside is e =
    ap (λ all. is_among (map string_bytes all) name) (at_place names i other inside is)
    ∙ ap (λ b. b || is_among (map string_bytes (drop (i + 1) names)) name) (sym e)

-- where no name is left that could be this one, it is none of them
pub no_name_left : (names : List (String Global)) (name : List ℕ) (i : ℕ) → drop i names ≡ [] → IsLeft names name i
    → false ≡ is_among (map string_bytes names) name
no_name_left names name i past left = sym (left ∙ ap (λ all. is_among (map string_bytes all) name) past)

-- the names of all values are those so far with those of the values from a place on
abbrev pub AreSoFar : List Value → List (String Global) → ℕ → Type 0
AreSoFar values names i = names_after [] (items_view values) ≡ names_after (map string_bytes names) (items_view (drop i values))

-- with the value at a place, the names of all are those so far, its own, and those after it
pub one_value : (values : List Value) (names : List (String Global)) (i : ℕ) (value : Value) → i < length values
    → value ≡ get_or values i value → AreSoFar values names i
    → names_after [] (items_view values)
    ≡ option_and_then (λ name. names_after (map string_bytes names ++ name ∷ []) (items_view (drop (i + 1) values)))
    (name_in (map string_bytes names) (view value))
one_value values names i value inside is so_far =
    so_far ∙ ap (λ all. names_after (map string_bytes names) (items_view all)) (at_place values i value inside is)

-- where the value at a place says no name that may follow, the values say no names
pub no_name : (values : List Value) (names : List (String Global)) (i : ℕ) (value : Value) → i < length values
    → value ≡ get_or values i value → AreSoFar values names i
    → name_in (map string_bytes names) (view value) ≡ None → None ≡ names_after [] (items_view values)
no_name values names i value inside is so_far none =
    sym (one_value values names i value inside is so_far
    ∙ ap (option_and_then (λ name. names_after (map string_bytes names ++ name ∷ []) (items_view (drop (i + 1) values)))) none)

-- after a name more was read, the names so far are those up to the next place
pub one_more : (values : List Value) (names more : List (String Global)) (i : ℕ) (value : Value) (name : String Global) → i < length values
    → value ≡ get_or values i value → AreSoFar values names i → name_in (map string_bytes names) (view value) ≡ Some (string_bytes name)
    → more ≡ names ++ name ∷ [] → AreSoFar values more (i + 1)
one_more values names more i value name inside is so_far found added =
    one_value values names i value inside is so_far
    ∙ ap (option_and_then (λ name. names_after (map string_bytes names ++ name ∷ []) (items_view (drop (i + 1) values)))) found
    ∙ ap (λ all. names_after all (items_view (drop (i + 1) values))) (sym (map-append string_bytes names (name ∷ [])))
    ∙ ap (λ all. names_after (map string_bytes all) (items_view (drop (i + 1) values))) (sym added)

-- where no value is left, the names so far are those of all values
pub all_names : (values : List Value) (names : List (String Global)) (i : ℕ) → drop i values ≡ [] → AreSoFar values names i
    → Some (map string_bytes names) ≡ names_after [] (items_view values)
all_names values names i past so_far = sym (so_far ∙ ap (λ all. names_after (map string_bytes names) (items_view all)) past)

-- what was found is what the document says
pub said_by : {A B : Type 0} (v : A → B) (found : Option A) (says : Option B) → option_map v found ≡ says
    → IfSome found (λ value. says ≡ Some (v value))
said_by v None says is = tt
said_by v (Some value) says is = sym is

-- where nothing was found, the document says nothing
pub unsaid_by : {A B : Type 0} (v : A → B) (found : Option A) (says : Option B) → option_map v found ≡ says
    → IfNone found ((value : B) → says ≡ Some value → ⊥)
unsaid_by v None says is = λ value some. cc
unsaid_by v (Some value) says is = tt
