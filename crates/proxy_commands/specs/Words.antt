-- How a script's lines are written: fixed words, and after one space a number, if the line has one.
use Rattle.std.specs.Prelude.{◌≡◌, ℕ, ◌<◌, ◌^◌, List, ◌∷◌, ◌++◌, Option, Some, None}
use Rattle.adapt_bytes.specs.Numeral.{Writes}
use Rattle.exchange_report.specs.Script.{event_word, event_number, need_words, printed_number}
use Rattle.proxy_commands.specs.declared.script.Line.{Line}
use Rattle.proxy_commands.specs.declared.script.Line.TheVariants.{Step, Need}

-- the words of a line
abbrev pub line_words : Line → List ℕ
line_words (Step event) = event_word event
line_words (Need tape place) = need_words tape

-- the number after them, if there is one
abbrev pub line_number : Line → Option ℕ
line_number (Step event) = event_number event
line_number (Need tape place) = Some place

-- one or more decimal digits, with any leading zeros, of a number of at most 2^64 - 1
pub record IsNumber (digits : List ℕ) (n : ℕ) : Type 0 where
  pub writes : Writes 10 digits n
  pub fits : n < 2 ^ 64

-- the text is the words alone, or the words, one space and the number
abbrev pub IsWordsThenNumber : List ℕ → List ℕ → Option ℕ → Type 0
IsWordsThenNumber text words None = text ≡ words
IsWordsThenNumber text words (Some n) = (digits : List ℕ) × (text ≡ words ++ 32 ∷ digits) × IsNumber digits n

-- the text is this line of a script
abbrev pub SaysLine : List ℕ → Line → Type 0
SaysLine text line = IsWordsThenNumber text (line_words line) (line_number line)

-- a line as it is printed: its number has no leading zero
abbrev pub line_text : Line → List ℕ
line_text line = line_words line ++ printed_number (line_number line)
