-- What the log says of a request line and of its target.
use Rattle.std.specs.Prelude.{◌≡◌, ℕ, ◌+◌, ◌<◌, ◌==◌, ◌||◌, List, [], ◌∷◌, length, take, drop, nat_lt, if◌then◌else◌}

-- the place of the first such byte; the length where there is none
abbrev pub place_of : ℕ → List ℕ → ℕ
place_of byte [] = 0
place_of byte (b ∷ text) = if b == byte then 0 else 1 + place_of byte text

-- a target up to its query, with the question mark that begins it (RFC 3986, section 3.4)
abbrev pub without_query : List ℕ → List ℕ
without_query target = take (place_of 63 target + 1) target

-- how many bytes the word has with which a text begins: those before the first that is a space or below it
abbrev pub word_length : List ℕ → ℕ
word_length [] = 0
word_length (b ∷ text) = if nat_lt 32 b then 1 + word_length text else 0

-- the word with which a text begins; empty where it begins with none
abbrev pub word_at : List ℕ → List ℕ
word_at text = take (word_length text) text

-- the word after it and one space
abbrev pub next_word : List ℕ → List ℕ
next_word text = word_at (drop (word_length text + 1) text)

-- how many bytes of empty lines a text begins with (RFC 9112, section 2.2)
abbrev pub empty_lines : List ℕ → ℕ
empty_lines [] = 0
empty_lines (b ∷ text) = if (b == 13) || (b == 10) then 1 + empty_lines text else 0

-- the first two words of a line that begins the text, once it has ended; before that there are none
pub record HasWords (text first second : List ℕ) : Type 0 where
  pub whole : place_of 10 text < length text → (first ≡ word_at text) × (second ≡ next_word text)
  pub part : place_of 10 text ≡ length text → (first ≡ []) × (second ≡ [])
