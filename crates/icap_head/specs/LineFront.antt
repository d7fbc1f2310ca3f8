-- The last line of a head that isn't whole (RFC 9112, section 5, as `httparse` reads it).
use Rattle.std.specs.Prelude.{◌≡◌, ◌≢◌, ℕ, ◌-◌, ◌<◌, ◌≤◌, ◌⊎◌, ◌++◌, List, [], ◌∷◌, slice_index, length}
use Rattle.adapt_bytes.specs.Text.{IsToken}
use Rattle.httparse.specs.Grammar.{AllPass, Field, IsField, is_value_byte, print_field}
use Rattle.icap_head.specs.declared.line_front.LinePart.{LinePart}
use Rattle.icap_head.specs.declared.line_front.LinePart.TheVariants.{Start, Name, Value, Return}

-- a name, a colon, and what has come of a value
abbrev pub IsInValue : List ℕ → Type 0
IsInValue line = (name : List ℕ) × (raw : List ℕ) × IsToken name × AllPass is_value_byte raw × (line ≡ name ++ 58 ∷ raw)

-- the line has come to this place
abbrev pub IsAt : LinePart → List ℕ → Type 0
IsAt Start line = line ≡ []
IsAt Name line = IsToken line
IsAt Value line = IsInValue line
IsAt Return line = (line ≡ 13 ∷ []) ⊎ ((front : List ℕ) × IsInValue front × (line ≡ front ++ 13 ∷ []))

-- a prefix of an empty line, or of a field line, without its LF
abbrev pub IsLineFront : List ℕ → Type 0
IsLineFront line =
    ((line ≡ []) ⊎ (line ≡ 13 ∷ []))
    ⊎ ((field : Field) × (left : List ℕ) × IsField field × (print_field field ≡ line ++ left) × (0 < length left))

-- the last line begins here: after the last LF, or with the text
pub record IsLastLine (text : List ℕ) (start : ℕ) : Type 0 where
  pub inside : start ≤ length text
  pub no_feed : (k : ℕ) → start ≤ k → k < length text → slice_index text k ≢ 10
  pub feed : 0 < start → slice_index text (start - 1) ≡ 10
