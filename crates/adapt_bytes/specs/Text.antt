-- A field's value as text: tokens, items between commas, and the case of ASCII.
use Rattle.std.specs.Prelude.{◌≡◌, ◌≢◌, ℕ, ◌<◌, slice_index, Bool, ◌||◌, List, [], ◌∷◌, length, map, filter, reverse, if◌then◌else◌, ◌==◌}
use Rattle.std.specs.Prelude.{nat_lt, codes, IsTrue, All, Option, Some, None}
use Rattle.std.specs.List.{slice_split, list_any}
use Rattle.std.specs.Char.{is_ascii_alphanumeric, to_ascii_lowercase}
use Rattle.std.specs.Str.{str_eq_ignore_ascii_case}
use Rattle.std.specs.Borrow.{Bor}
use Rattle.adapt_bytes.specs.declared.commas.CommaParts.{CommaParts}
use Rattle.adapt_bytes.specs.declared.commas.CommaItems.{CommaItems}

-- tchar of RFC 9110, section 5.6.2
unfoldable pub is_token_byte : ℕ → Bool
is_token_byte b = is_ascii_alphanumeric b || list_any (λ c. c == b) (codes "!#$%&'*+-.^_`|~")

-- token = 1*tchar
abbrev pub IsToken : List ℕ → Type 0
IsToken bytes = (0 < length bytes) × All (λ b. IsTrue (is_token_byte b)) bytes

-- the texts are the same but for the case of ASCII letters
abbrev pub SameAscii : List ℕ → List ℕ → Type 0
SameAscii a b = map to_ascii_lowercase a ≡ map to_ascii_lowercase b

-- no byte of the text is c
abbrev pub Lacks : ℕ → List ℕ → Type 0
Lacks c text = (k : ℕ) → k < length text → slice_index text k ≢ c

-- a line ends in the text
abbrev pub has_line : List ℕ → Bool
has_line text = list_any (λ b. b == 10) text

-- a space or a tab
abbrev pub is_blank : ℕ → Bool
is_blank b = b == 32 || b == 9

-- the text from its first byte that is no blank
abbrev pub skip_blanks : List ℕ → List ℕ
skip_blanks [] = []
skip_blanks (b ∷ text) = if is_blank b then skip_blanks text else b ∷ text

-- the text without the blanks at both ends (OWS, RFC 9110, section 5.6.3)
unfoldable pub trim : List ℕ → List ℕ
trim text = reverse (skip_blanks (reverse (skip_blanks text)))

-- the parts between commas (RFC 9110, section 5.6.1), trimmed; an empty one counts, so there is one at least
unfoldable pub comma_parts : List ℕ → List (List ℕ)
comma_parts text = map trim (slice_split (λ b. b == 44) text)

-- the parts that aren't empty
unfoldable pub comma_items : List ℕ → List (List ℕ)
comma_items text = filter (λ part. nat_lt 0 (length part)) (comma_parts text)

-- one of the words is this one, but for the case of ASCII letters
abbrev pub is_among : List (List ℕ) → List ℕ → Bool
is_among words word = list_any (λ other. str_eq_ignore_ascii_case other word) words

-- an item of the list is the word, but for the case of ASCII letters
abbrev pub has_item : List ℕ → List ℕ → Bool
has_item word text = is_among (comma_items text) word

-- what an iterator has still to give
abbrev pub left_of : Option (Bor (List ℕ)) → List (List ℕ)
left_of None = []
left_of (Some rest) = comma_parts rest.now

-- the parts that are still to come
abbrev pub parts_left : CommaParts → List (List ℕ)
parts_left parts = left_of parts.rest

-- the items that are still to come
abbrev pub items_left : CommaItems → List (List ℕ)
items_left items = filter (λ part. nat_lt 0 (length part)) (parts_left items.parts)
