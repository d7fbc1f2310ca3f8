-- The Expect fields of a request.
use Rattle.std.proofs.Common.{◌≡◌, ℕ, ◌+◌, ◌<◌, Bool, true, false, List, [], ◌∷◌, ◌++◌, length, take, drop, refl, sym, ap, ◌∙◌, codes}
use Rattle.std.specs.Prelude.{◌||◌}
use Rattle.std.specs.List.{list_any}
use Rattle.std.specs.Str.{str_eq_ignore_ascii_case}
use Rattle.adapt_bytes.specs.Fields.{name_at, value_at, values_of}
use Rattle.adapt_bytes.specs.Text.{has_item}
use Rattle.http_side.proofs.FieldLemmas.{values-more, values-front}
use Rattle.proxy_rules.specs.Users.{expects_continue}

-- an element of two lists in a row passes a test just where one of the first or of the second does
any_more : (test : List ℕ → Bool) (xs ys : List (List ℕ)) → list_any test (xs ++ ys) ≡ (list_any test xs || list_any test ys)
any_more test [] ys = refl
any_more test (x ∷ xs) ys = ap (λ b. test x || b) (any_more test xs ys) ∙ sym (or_assoc (test x) (list_any test xs) (list_any test ys))
  where
    or_assoc : (a b c : Bool) → ((a || b) || c) ≡ (a || (b || c))
    or_assoc true b c = refl
    or_assoc false b c = refl

-- anything or true is true
or_true : (b : Bool) → (b || true) ≡ true
or_true true = refl
or_true false = refl

-- a field that names it is enough
pub expected_here : (fields : List (List ℕ × List ℕ)) (i : ℕ) → i < length fields
    → str_eq_ignore_ascii_case (name_at fields i) (codes "expect") ≡ true
    → has_item (codes "100-continue") (value_at fields i) ≡ true → expects_continue fields ≡ true
expected_here fields i l e n =
    ap (list_any (has_item (codes "100-continue"))) (values-front (codes "expect") fields (i + 1))
    ∙ any_more (has_item (codes "100-continue")) (values_of (codes "expect") (take (i + 1) fields))
    (values_of (codes "expect") (drop (i + 1) fields))
    ∙ ap (λ vs. list_any (has_item (codes "100-continue")) vs || list_any (has_item (codes "100-continue"))
    (values_of (codes "expect") (drop (i + 1) fields))) (values-more (codes "expect") fields i l e)
    ∙ ap (λ b. b || list_any (has_item (codes "100-continue")) (values_of (codes "expect") (drop (i + 1) fields)))
    (any_more (has_item (codes "100-continue")) (values_of (codes "expect") (take i fields)) (value_at fields i ∷ [])
    ∙ ap (λ b. list_any (has_item (codes "100-continue")) (values_of (codes "expect") (take i fields)) || (b || false)) n ∙ or_true _)
