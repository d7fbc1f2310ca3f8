-- Bytes from outside, as text in quotation marks or without them.
use Rattle.std.specs.Prelude.{ℕ, ◌+◌, ◌/◌, ◌%◌, nat_lt, ◌==◌, ◌&&◌, ◌||◌, not, Bool, if◌then◌else◌, List, [], ◌∷◌, ◌++◌}

-- a visible byte of ASCII or a space, and no quote and no backslash
abbrev pub is_plain : ℕ → Bool
is_plain b = nat_lt 31 b && nat_lt b 127 && not (b == 34) && not (b == 92)

-- one that stands as a letter or itself after a backslash: CR, LF, the quote, the backslash
abbrev pub is_marked : ℕ → Bool
is_marked b = b == 13 || b == 10 || b == 34 || b == 92

-- what stands there: r, n, or itself
abbrev pub mark : ℕ → ℕ
mark b = if b == 13 then 114 else if b == 10 then 110 else b

-- the digits 0 to 9 and a to f
abbrev pub hex_digit : ℕ → ℕ
hex_digit d = if nat_lt d 10 then 48 + d else 87 + d

-- a byte as it is, or after a backslash, or as a backslash, x and two digits
abbrev pub escaped : ℕ → List ℕ
escaped b = if is_plain b then b ∷ []
    else if is_marked b then 92 ∷ mark b ∷ []
    else 92 ∷ 120 ∷ hex_digit (b / 16) ∷ hex_digit (b % 16) ∷ []

abbrev pub escaped_text : List ℕ → List ℕ
escaped_text [] = []
escaped_text (b ∷ bytes) = escaped b ++ escaped_text bytes

-- a byte that stands in no quotation: a quote is itself
abbrev pub shown : ℕ → List ℕ
shown b = if b == 34 then 34 ∷ [] else escaped b

abbrev pub shown_text : List ℕ → List ℕ
shown_text [] = []
shown_text (b ∷ bytes) = shown b ++ shown_text bytes
