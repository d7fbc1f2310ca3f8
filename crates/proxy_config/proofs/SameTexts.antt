-- Lists of texts are the same where their texts are, one by one.
use Rattle.std.proofs.Common.{◌≡◌, ℕ, List, [], ◌∷◌, ◌&&◌, Bool, true, false, map, String, Global, string_bytes, refl, ap, ◌∙◌, rules}
use Rattle.std.proofs.lemmas.Bool.{false≢true}
use Rattle.std.proofs.lemmas.Slice.Eq.{bytes_eq-Decides}
use Rattle.std.specs.Cmp.Lexicographic.{pointwise}
use Rattle.std.specs.Str.{bytes_eq}
use Rattle.std.specs.String.{string_eq}

-- both of two are true where their conjunction is
pub both : (a b : Bool) → (a && b) ≡ true → (a ≡ true) × (b ≡ true)
both true true is = (refl, refl)
both true false is = absurd (false≢true is)
both false b is = absurd (false≢true is)

-- lists of strings that are equal one by one have the same texts
pub texts_same : (xs ys : List (String Global)) → pointwise string_eq xs ys ≡ true → map string_bytes xs ≡ map string_bytes ys
texts_same [] [] is = refl
texts_same [] (y ∷ ys) is = absurd (false≢true is)
texts_same (x ∷ xs) [] is = absurd (false≢true is)
texts_same (x ∷ xs) (y ∷ ys) is =
    let (first, rest) = both (bytes_eq (string_bytes x) (string_bytes y)) (pointwise string_eq xs ys) is in
    ap (λ (t : List ℕ). t ∷ map string_bytes xs) ((bytes_eq-Decides (string_bytes x) (string_bytes y)).0 first)
    ∙ ap (λ (ts : List (List ℕ)). string_bytes y ∷ ts) (texts_same xs ys rest)

-- where both of two are true their conjunction is
and_true : (a b : Bool) → a ≡ true → b ≡ true → (a && b) ≡ true
and_true true true is so = refl
and_true true false is so = absurd (false≢true so)
and_true false b is so = absurd (false≢true is)

-- lists of strings with the same texts are equal one by one
pub same_texts : (xs ys : List (String Global)) → map string_bytes xs ≡ map string_bytes ys → pointwise string_eq xs ys ≡ true
same_texts [] [] is = refl
same_texts [] (y ∷ ys) is = search (rules, is)
same_texts (x ∷ xs) [] is = search (rules, is)
same_texts (x ∷ xs) (y ∷ ys) is =
    let first : string_bytes x ≡ string_bytes y = search (rules, is) in
    let rest : map string_bytes xs ≡ map string_bytes ys = search (rules, is) in
    and_true (bytes_eq (string_bytes x) (string_bytes y)) (pointwise string_eq xs ys)
    ((bytes_eq-Decides (string_bytes x) (string_bytes y)).1 first) (same_texts xs ys rest)
