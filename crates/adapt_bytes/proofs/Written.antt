-- What is written is read again, and is short.
use Rattle.std.proofs.Common.{◌≡◌, ℕ, zero, suc, ◌+◌, ◌*◌, ◌<◌, ◌≤◌, ◌^◌, false, List, [], ◌∷◌, length, map, refl, ap, ◌∙◌, arith, nat_eq}
use Rattle.std.proofs.Common.{lit≤, zero-mul}
use Rattle.std.proofs.lemmas.Bool.Decides.{nat_tests}
use Rattle.std.proofs.lemmas.List.{length-map}
use Rattle.std.specs.Char.{digit_value, digit_char}
use Rattle.std.specs.Str.Parse.{AllDigits}
use Rattle.std.specs.Int.Digits.{digits_of, number_from_digits, AllBelowBase}
use Rattle.std.proofs.lemmas.Int.Digits.{digits_value_is, all_below_base_digits_of, number_digits_of, length-digits_of_step}
use Rattle.std.proofs.lemmas.Int.Digits.{length-digits_of-le}
use Rattle.adapt_bytes.specs.Numeral.{Writes, numeral}

-- the value of the byte that a digit below 16 is written as is that digit
digit_back : (d : ℕ) → d < 16 → digit_value (digit_char d) ≡ d
digit_back d l = grind (arith, nat_tests)

-- digits below a base up to 16 are written as digits of that base
all_digits : (base : ℕ) (ds : List ℕ) → base ≤ 16 → AllBelowBase base ds → AllDigits base (map digit_char ds)
all_digits base [] high h = tt
all_digits base (d ∷ ds) high h = (omega (arith, digit_back d (omega (arith, h.0)), h.0), all_digits base ds high h.1)

-- the values of the bytes that digits of a base up to 16 are written as are those digits
values_back : (base : ℕ) (ds : List ℕ) → base ≤ 16 → AllBelowBase base ds → map digit_value (map digit_char ds) ≡ ds
values_back base [] high h = refl
values_back base (d ∷ ds) high h = ap (λ x. x ∷ map digit_value (map digit_char ds)) (digit_back d (omega (arith, h.0)))
    ∙ ap (λ xs. d ∷ xs) (values_back base ds high h.1)

-- a number above 0 isn't equal to 0
eq_no : (n : ℕ) → 0 < n → nat_eq n 0 ≡ false
eq_no n pos = grind (arith, nat_tests)

-- the numeral of 0 is the one digit 0
pub numeral_zero : (base : ℕ) → numeral base 0 ≡ 48 ∷ []
unfolding numeral
numeral_zero base = refl

-- the numeral of a number above 0 is its digits, each as a byte
pub numeral_more : (base n : ℕ) → 0 < n → numeral base n ≡ map digit_char (digits_of base n)
unfolding numeral
numeral_more base n pos = rw (eq_no n pos) refl

-- nothing times a base, and nothing more, is 0
pub zero_value : (base : ℕ) → 0 * base + 0 ≡ 0
zero_value base = simp (zero-mul)

-- a numeral that was written is read again
pub Writes-numeral : (base n : ℕ) → 2 ≤ base → base ≤ 16 → Writes base (numeral base n) n
Writes-numeral base zero low high = rw (numeral_zero base) (record { digits = (lit≤ tt, (omega arith, tt)); value = zero_value base })
Writes-numeral base (suc n) low high =
    let ds = digits_of base (suc n) in
    let below = all_below_base_digits_of base (suc n) low in
    let len = length-digits_of_step base (suc n) low (omega arith) in
    rw (numeral_more base (suc n) (omega arith)) (record {
      digits = (omega (arith, length-map ds digit_char), all_digits base ds high below);
      value = digits_value_is base (map digit_char ds) ∙ ap (number_from_digits base) (values_back base ds high below)
          ∙ number_digits_of base (suc n) low;
    })

-- a number below a power of the base, to 1 or more, has a numeral of at most as many digits as the exponent says
pub length-numeral-le : (base n k : ℕ) → 2 ≤ base → 0 < k → n < base ^ k → length (numeral base n) ≤ k
length-numeral-le base zero k low pos l = rw (numeral_zero base) pos
length-numeral-le base (suc n) k low pos l = rw (numeral_more base (suc n) (omega arith))
    (omega (arith, length-map (digits_of base (suc n)) digit_char, length-digits_of-le base k (suc n) low l))

-- a decimal of a number of 64 bits has at most 20 digits
pub decimal_short : (n : ℕ) → n < 2 ^ 64 → length (numeral 10 n) ≤ 20
decimal_short n l = length-numeral-le 10 n 20 (lit≤ tt) (lit≤ tt) (omega arith)

-- a hexadecimal of a number of 64 bits has at most 16 digits
pub hex_short : (n : ℕ) → n < 2 ^ 64 → length (numeral 16 n) ≤ 16
hex_short n l = length-numeral-le 16 n 16 (lit≤ tt) (lit≤ tt) (omega arith)
