-- How a value from outside is written: as one word, of visible bytes.
use Rattle.std.specs.Prelude.{ℕ, ◌+◌, ◌/◌, ◌%◌, Bool, not, ◌&&◌, ◌==◌, List, [], ◌∷◌, ◌++◌, nat_lt, if◌then◌else◌, codes}

-- visible in ASCII, and no quote
abbrev pub is_visible : ℕ → Bool
is_visible b = nat_lt 32 b && nat_lt b 127 && not (b == 34)

-- written as it is: visible, and no percent sign, which begins an escape
abbrev pub is_plain : ℕ → Bool
is_plain b = is_visible b && not (b == 37)

-- the digits 0 to 9 and A to F
abbrev pub hex_digit : ℕ → ℕ
hex_digit d = if nat_lt d 10 then 48 + d else 55 + d

-- a byte as it is, or as a percent sign and two digits (RFC 3986, section 2.1)
abbrev pub escaped : ℕ → List ℕ
escaped b = if is_plain b then b ∷ [] else 37 ∷ hex_digit (b / 16) ∷ hex_digit (b % 16) ∷ []

abbrev pub escaped_text : List ℕ → List ℕ
escaped_text [] = []
escaped_text (b ∷ bytes) = escaped b ++ escaped_text bytes

-- a value as one word: a hyphen stands for none
abbrev pub word_of : List ℕ → List ℕ
word_of [] = codes "-"
word_of (b ∷ bytes) = escaped_text (b ∷ bytes)
