-- Numbers as text, in base 10 or 16.
use Rattle.std.specs.Prelude.{◌≡◌, ◌≢◌, ℕ, ◌+◌, ◌/◌, ◌%◌, ◌⊎◌, List, [], ◌∷◌, map, if◌then◌else◌, ◌==◌}
use Rattle.std.specs.Char.{digit_char, to_ascii_lowercase}
use Rattle.std.specs.Int.Digits.{digits_of}
use Rattle.std.specs.Str.Parse.{IsNumeral, digits_value}

-- the bytes are digits, one or more, in either case and with any leading zeros, and write n
pub record Writes (base : ℕ) (bytes : List ℕ) (n : ℕ) : Type 0 where
  pub digits : IsNumeral base bytes
  pub value : digits_value base bytes ≡ n

-- the digits of n, the highest first and in lower case; no leading zero but for 0 itself
unfoldable pub numeral : ℕ → ℕ → List ℕ
numeral base n = if n == 0 then 48 ∷ [] else map digit_char (digits_of base n)

-- a number below 1,000 with three digits
abbrev pub three_digits : ℕ → List ℕ
three_digits n = (48 + n / 100) ∷ (48 + n / 10 % 10) ∷ (48 + n % 10) ∷ []

-- the text is the digit 0, or doesn't begin with it
abbrev pub HasNoLeadingZero : List ℕ → Type 0
HasNoLeadingZero text = (text ≡ 48 ∷ []) ⊎ ((behind : List ℕ) → text ≢ 48 ∷ behind)

-- no letter is in upper case
abbrev pub IsLowerCase : List ℕ → Type 0
IsLowerCase text = map to_ascii_lowercase text ≡ text
