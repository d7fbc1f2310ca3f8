-- A value from outside is written as one word: each byte is visible, and no quote; and no two values are written alike.
use Rattle.std.proofs.Common.{ℕ, ◌/◌, ◌%◌, ◌<◌, List, [], ◌∷◌, All, IsTrue, arith, rules, inl, inr}
use Rattle.std.proofs.lemmas.Bool.{cases_Bool}
use Rattle.std.proofs.lemmas.List.Elements.{All-cons, All-nil, All-append, All-head, All-tail}
use Rattle.exchange_report.specs.Words.{is_plain, is_visible, hex_digit, escaped, escaped_text, word_of}

abbrev pub IsVisible : ℕ → Type 0
IsVisible b = IsTrue (is_visible b)

-- a hexadecimal digit is visible
plain_digit : (d : ℕ) → d < 16 → IsVisible (hex_digit d)
plain_digit d h = grind (arith, h)

-- a byte that is written as it is is visible
visible : (b : ℕ) → IsTrue (is_plain b) → IsVisible b
visible b h = grind (rules, h)

-- what is written of a byte is visible
pub plain_byte : (b : ℕ) → b < 256 → All IsVisible (escaped b)
plain_byte b h = elim (cases_Bool (is_plain b)) as (λ _. All IsVisible (escaped b)) [
  | inl e ↦ rw e (All-cons IsVisible b [] (visible b e) (All-nil IsVisible))
  | inr e ↦ rw e (All-cons IsVisible 37 (hex_digit (b / 16) ∷ hex_digit (b % 16) ∷ []) (search rules)
      (All-cons IsVisible (hex_digit (b / 16)) (hex_digit (b % 16) ∷ []) (plain_digit (b / 16) (omega (arith, h)))
      (All-cons IsVisible (hex_digit (b % 16)) [] (plain_digit (b % 16) (omega (arith, h))) (All-nil IsVisible))))
]

-- what is written of a text of bytes is visible
pub plain_text : (value : List ℕ) → All (λ b. b < 256) value → All IsVisible (escaped_text value)
plain_text [] h = All-nil IsVisible
plain_text (b ∷ bytes) h = All-append IsVisible (escaped b) (escaped_text bytes) (plain_byte b (All-head (λ n. n < 256) b bytes h))
    (plain_text bytes (All-tail (λ n. n < 256) b bytes h))

-- the word of a value of bytes is visible
pub plain_word : (value : List ℕ) → All (λ b. b < 256) value → All IsVisible (word_of value)
plain_word [] h = All-cons IsVisible 45 [] (search rules) (All-nil IsVisible)
plain_word (b ∷ bytes) h = plain_text (b ∷ bytes) h
