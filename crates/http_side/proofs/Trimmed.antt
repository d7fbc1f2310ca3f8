-- Values without blanks at their ends.
use Rattle.std.proofs.Common.{◌≡◌, ℕ, ◌≤◌, true, false, List, [], ◌∷◌, ◌++◌, length, reverse, refl, sym, ap, ◌∙◌, inl, inr, arith, rules}
use Rattle.std.proofs.lemmas.Bool.{cases_Bool}
use Rattle.std.proofs.lemmas.List.{reverse-reverse, reverse-append}
use Rattle.httparse.specs.Grammar.{AllPass, is_ows, is_uri_byte, skip_ows, trim_ows}
use Rattle.httparse.proofs.TrimLemmas.{AllPass-reverse}

-- a blank at the beginning of a text is skipped
pub skip_yes : (b : ℕ) (xs : List ℕ) → is_ows b ≡ true → skip_ows (b ∷ xs) ≡ skip_ows xs
skip_yes b xs is = rw is refl

-- nothing is skipped of a text whose first byte is no blank
pub skip_off : (b : ℕ) (xs : List ℕ) → is_ows b ≡ false → skip_ows (b ∷ xs) ≡ b ∷ xs
skip_off b xs is = rw is refl

-- where the blanks before a text were skipped, no more are
skip_twice : (xs : List ℕ) → skip_ows (skip_ows xs) ≡ skip_ows xs
skip_twice [] = refl
skip_twice (b ∷ xs) = elim (cases_Bool (is_ows b)) [
  | inl is ↦ ap skip_ows (skip_yes b xs is) ∙ skip_twice xs ∙ sym (skip_yes b xs is)
  | inr is ↦ ap skip_ows (skip_off b xs is)
]

-- a text without the blanks at its beginning is at most as long as the text
skip_short : (xs : List ℕ) → length (skip_ows xs) ≤ length xs
skip_short [] = omega arith
skip_short (b ∷ xs) = elim (cases_Bool (is_ows b)) [
  | inl is ↦ let e = ap length (skip_yes b xs is) in let ih = skip_short xs in omega (arith, e, ih)
  | inr is ↦ let e = ap length (skip_off b xs is) in omega (arith, e)
]

-- a text ends in what is left of it after the blanks before it are skipped
skip_front : (xs : List ℕ) → (blanks : List ℕ) × (xs ≡ blanks ++ skip_ows xs)
skip_front [] = ([], refl)
skip_front (b ∷ xs) = elim (cases_Bool (is_ows b)) [
  | inl is ↦ let ih = skip_front xs in (b ∷ ih.0, ap (λ t. b ∷ t) ih.1 ∙ ap (λ t. b ∷ ih.0 ++ t) (sym (skip_yes b xs is)))
  | inr is ↦ ([], sym (skip_off b xs is))
]

-- where a text begins with no blank, a prefix of it doesn't either
front_trimmed : (xs ys : List ℕ) → skip_ows (xs ++ ys) ≡ xs ++ ys → skip_ows xs ≡ xs
front_trimmed [] ys e = refl
front_trimmed (b ∷ xs) ys e = elim (cases_Bool (is_ows b)) [
  | inl is ↦ let n = ap length (sym (skip_yes b (xs ++ ys) is) ∙ e) in let short = skip_short (xs ++ ys) in absurd (omega (arith, n, short))
  | inr is ↦ skip_off b xs is
]

-- a trimmed text has no blank at its beginning
pub trimmed_front : (raw : List ℕ) → skip_ows (trim_ows raw) ≡ trim_ows raw
unfolding trim_ows
trimmed_front raw =
    let w = skip_ows raw in
    let cut = skip_front (reverse w) in
    let v = reverse (skip_ows (reverse w)) in
    let whole : w ≡ v ++ reverse cut.0 = sym (reverse-reverse w) ∙ ap reverse cut.1 ∙ reverse-append cut.0 (skip_ows (reverse w)) in
    front_trimmed v (reverse cut.0) (ap skip_ows (sym whole) ∙ skip_twice raw ∙ whole)

-- a trimmed text has no blank at its end
pub trimmed_back : (raw : List ℕ) → skip_ows (reverse (trim_ows raw)) ≡ reverse (trim_ows raw)
unfolding trim_ows
trimmed_back raw =
    let u = skip_ows (reverse (skip_ows raw)) in
    ap skip_ows (reverse-reverse u) ∙ skip_twice (reverse (skip_ows raw)) ∙ sym (reverse-reverse u)

-- a byte of a target is no blank
not_blank : (b : ℕ) → is_uri_byte b ≡ true → is_ows b ≡ false
not_blank b h = search rules

-- a text of only target bytes has no blank at its beginning
pub visible_front : (t : List ℕ) → AllPass is_uri_byte t → skip_ows t ≡ t
visible_front [] h = refl
visible_front (b ∷ t) h = skip_off b t (not_blank b (h 0 b (omega arith)))

-- a text of only target bytes has no blank at its end
pub visible_back : (t : List ℕ) → AllPass is_uri_byte t → skip_ows (reverse t) ≡ reverse t
visible_back t h = visible_front (reverse t) (AllPass-reverse is_uri_byte t h)
