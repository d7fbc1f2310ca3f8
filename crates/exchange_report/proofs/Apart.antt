-- No two values from outside are written alike.
use Rattle.std.proofs.Common.{◌≡◌, ℕ, ◌/◌, ◌%◌, ◌<◌, ◌++◌, true, false, List, [], ◌∷◌, All, arith, rules, refl, sym, ◌∙◌, inl, inr, length}
use Rattle.std.proofs.Common.{subst}
use Rattle.std.proofs.lemmas.Bool.{cases_Bool}
use Rattle.std.proofs.lemmas.List.Elements.{All-head, All-tail}
use Rattle.exchange_report.specs.Words.{is_plain, hex_digit, escaped, escaped_text, word_of}

-- a digit says its number
digit : (d e : ℕ) → d < 16 → e < 16 → hex_digit d ≡ hex_digit e → d ≡ e
digit d e h i q = grind (arith, h, i, q)

-- two digits say their byte
byte : (b c : ℕ) → b < 256 → c < 256 → hex_digit (b / 16) ≡ hex_digit (c / 16) → hex_digit (b % 16) ≡ hex_digit (c % 16) → b ≡ c
byte b c h i high low =
    let one : b / 16 ≡ c / 16 = digit (b / 16) (c / 16) (omega (arith, h)) (omega (arith, i)) high in
    let two : b % 16 ≡ c % 16 = digit (b % 16) (c % 16) (omega arith) (omega arith) low in
    omega (arith, one, two)

-- what stands before a rest, where it is one byte
plain_head : (b : ℕ) (rest : List ℕ) → is_plain b ≡ true → escaped b ++ rest ≡ b ∷ rest
plain_head b rest e = grind (rules, e)

-- and where it is an escape
other_head : (b : ℕ) (rest : List ℕ) → is_plain b ≡ false → escaped b ++ rest ≡ 37 ∷ hex_digit (b / 16) ∷ hex_digit (b % 16) ∷ rest
other_head b rest e = grind (rules, e)

-- the first of two lists that are one, and what comes after it
pub first : {A : Type 0} (x y : A) (xs ys : List A) → x ∷ xs ≡ y ∷ ys → (x ≡ y) × (xs ≡ ys)
first x y xs ys e = grind (rules, e)

-- a byte that is written as it is is no escape
mixed : (b c : ℕ) (xs ys : List ℕ) → is_plain b ≡ true → b ∷ xs ≡ 37 ∷ hex_digit (c / 16) ∷ hex_digit (c % 16) ∷ ys → ⊥
mixed b c xs ys p e = percent b p (first b 37 xs (hex_digit (c / 16) ∷ hex_digit (c % 16) ∷ ys) e).0
  where
    percent : (b : ℕ) → is_plain b ≡ true → b ≡ 37 → ⊥
    percent b p q = let bad : is_plain 37 ≡ true = subst (λ n. is_plain n ≡ true) q p in grind (rules, bad)

-- two escapes that are written alike, each with a rest, are of the same byte and have the same rest
both : (b c : ℕ) (xs ys : List ℕ) → b < 256 → c < 256
    → 37 ∷ hex_digit (b / 16) ∷ hex_digit (b % 16) ∷ xs ≡ 37 ∷ hex_digit (c / 16) ∷ hex_digit (c % 16) ∷ ys → (b ≡ c) × (xs ≡ ys)
both b c xs ys h i e =
    let one = first 37 37 (hex_digit (b / 16) ∷ hex_digit (b % 16) ∷ xs) (hex_digit (c / 16) ∷ hex_digit (c % 16) ∷ ys) e in
    let two = first (hex_digit (b / 16)) (hex_digit (c / 16)) (hex_digit (b % 16) ∷ xs) (hex_digit (c % 16) ∷ ys) one.1 in
    let three = first (hex_digit (b % 16)) (hex_digit (c % 16)) xs ys two.1 in
    (byte b c h i two.0 three.0, three.1)

-- a byte is written as one or three
none : (c : ℕ) (rest : List ℕ) → [] ≡ escaped c ++ rest → ⊥
none c rest e = elim (cases_Bool (is_plain c)) as (λ _. ⊥) [
  | inl q ↦ let bad : [] ≡ c ∷ rest = e ∙ plain_head c rest q in grind (rules, bad)
  | inr q ↦ let bad : [] ≡ 37 ∷ hex_digit (c / 16) ∷ hex_digit (c % 16) ∷ rest = e ∙ other_head c rest q in grind (rules, bad)
]

-- lists with the same first element and the same rest are the same
pub cons : (b c : ℕ) (xs ys : List ℕ) → b ≡ c → xs ≡ ys → b ∷ xs ≡ c ∷ ys
cons b c xs ys e f = cc

-- what is written of two texts is told by their first bytes, and the rest
step : (b c : ℕ) (xs ys : List ℕ) → b < 256 → c < 256 → escaped b ++ escaped_text xs ≡ escaped c ++ escaped_text ys
    → (b ≡ c) × (escaped_text xs ≡ escaped_text ys)
step b c xs ys h i e = elim (cases_Bool (is_plain b)) as (λ _. (b ≡ c) × (escaped_text xs ≡ escaped_text ys)) [
  | inl p ↦ elim (cases_Bool (is_plain c)) as (λ _. (b ≡ c) × (escaped_text xs ≡ escaped_text ys)) [
    | inl q ↦ first b c (escaped_text xs) (escaped_text ys) (sym (plain_head b (escaped_text xs) p) ∙ e ∙ plain_head c (escaped_text ys) q)
    | inr q ↦ absurd (mixed b c (escaped_text xs) (escaped_text ys) p (sym (plain_head b (escaped_text xs) p) ∙ e
        ∙ other_head c (escaped_text ys) q))
  ]
  | inr p ↦ elim (cases_Bool (is_plain c)) as (λ _. (b ≡ c) × (escaped_text xs ≡ escaped_text ys)) [
    | inl q ↦ absurd (mixed c b (escaped_text ys) (escaped_text xs) q (sym (plain_head c (escaped_text ys) q) ∙ sym e
        ∙ other_head b (escaped_text xs) p))
    | inr q ↦ both b c (escaped_text xs) (escaped_text ys) h i (sym (other_head b (escaped_text xs) p) ∙ e
        ∙ other_head c (escaped_text ys) q)
  ]
]

-- bytes that are written alike are the same
pub one_text : (value other : List ℕ) → All (λ b. b < 256) value → All (λ b. b < 256) other → escaped_text value ≡ escaped_text other
    → value ≡ other
one_text [] [] h i e = refl
one_text [] (c ∷ ys) h i e = absurd (none c (escaped_text ys) e)
one_text (b ∷ xs) [] h i e = absurd (none b (escaped_text xs) (sym e))
one_text (b ∷ xs) (c ∷ ys) h i e =
    let s = step b c xs ys (All-head (λ n. n < 256) b xs h) (All-head (λ n. n < 256) c ys i) e in
    cons b c xs ys s.0 (one_text xs ys (All-tail (λ n. n < 256) b xs h) (All-tail (λ n. n < 256) c ys i) s.1)

-- values of bytes that aren't empty and are written as the same word are the same
pub one_word : (value other : List ℕ) → All (λ b. b < 256) value → All (λ b. b < 256) other → 0 < length value → 0 < length other
    → word_of value ≡ word_of other → value ≡ other
one_word [] other h i some more e = let bad : ⊥ = omega (arith, some) in absurd bad
one_word (b ∷ xs) [] h i some more e = let bad : ⊥ = omega (arith, more) in absurd bad
one_word (b ∷ xs) (c ∷ ys) h i some more e = one_text (b ∷ xs) (c ∷ ys) h i e
