-- Three digits are read as the number that they were written for.
use Rattle.std.proofs.Common.{◌≡◌, ℕ, ◌+◌, ◌/◌, ◌%◌, ◌<◌, true, IsTrue, [], ◌∷◌, All, arith, rules}
use Rattle.std.specs.Char.{is_ascii_digit, digit_value}
use Rattle.std.specs.Str.Parse.{digits_value}
use Rattle.std.proofs.lemmas.Str.{digit_value_digit}
use Rattle.std.proofs.lemmas.List.Elements.{All-cons, All-nil}
use Rattle.adapt_bytes.specs.Numeral.{Writes, three_digits}

-- the byte of a number below 10 is an ASCII digit
digit_is : (d : ℕ) → d < 10 → is_ascii_digit (48 + d) ≡ true
digit_is d h = search rules

-- each of the three bytes that a number below 1,000 is written with is a digit
pub all_digits : (n : ℕ) → n < 1000 → All (λ b. IsTrue (is_ascii_digit b)) (three_digits n)
all_digits n h =
    let P : ℕ → Type 0 = λ b. IsTrue (is_ascii_digit b) in
    All-cons P (48 + n / 100) ((48 + n / 10 % 10) ∷ (48 + n % 10) ∷ []) (digit_is (n / 100) (omega arith))
    (All-cons P (48 + n / 10 % 10) ((48 + n % 10) ∷ []) (digit_is (n / 10 % 10) (omega arith))
    (All-cons P (48 + n % 10) [] (digit_is (n % 10) (omega arith)) (All-nil P)))

-- the byte of a number below 10 has that number as its digit value
value_is : (d : ℕ) → d < 10 → digit_value (48 + d) ≡ d
value_is d h = let v = digit_value_digit (48 + d) (omega arith, omega arith) in omega (arith, v)

-- the three digits of a number below 1,000 have it as their value
pub digits_back : (n : ℕ) → n < 1000 → digits_value 10 (three_digits n) ≡ n
digits_back n h =
    let a = value_is (n / 100) (omega arith) in
    let b = value_is (n / 10 % 10) (omega arith) in
    let d = value_is (n % 10) (omega arith) in
    omega (arith, a, b, d)

-- three digits of a number below 1,000 are a decimal of it
pub Writes-three_digits : (n : ℕ) → n < 1000 → Writes 10 (three_digits n) n
Writes-three_digits n h =
    let a = value_is (n / 100) (omega arith) in
    let b = value_is (n / 10 % 10) (omega arith) in
    let d = value_is (n % 10) (omega arith) in
    record { digits = (omega arith, (omega (arith, a), (omega (arith, b), (omega (arith, d), tt)))); value = digits_back n h }
