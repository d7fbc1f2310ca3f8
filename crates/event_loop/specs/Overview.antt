-- What the administrator gets of what all threads have written of their exchanges.
use Rattle.std.specs.Prelude.{◌≡◌, ℕ, ◌+◌, ◌-◌, ◌^◌, Bool, true, false, List, [], ◌∷◌, ◌++◌, length, map, take, drop, min, codes, nat_lt}
use Rattle.std.specs.Prelude.{Option, Some, None, if◌then◌else◌, ◌==◌}
use Rattle.std.specs.List.Sorted.{IsPermutation, IsSortedBy, IsStableBy}
use Rattle.adapt_bytes.specs.Numeral.{numeral}
use Rattle.event_loop.specs.declared.sheet.SheetLine.{SheetLine}
use Rattle.event_loop.specs.declared.sheet.Sheet.{Sheet}
use Rattle.event_loop.specs.declared.overview.Line.{Line}

-- a line, and for how many seconds nothing has moved in its exchange
pub record Shown : Type 0 where
  pub still : ℕ
  pub text : List ℕ

abbrev pub seen : Line → Shown
seen line = record { still = line.still; text = line.text.now }

-- the line that stands here in the text of a sheet
abbrev pub shown_at : List ℕ → SheetLine → Shown
shown_at text line = record { still = line.still; text = take (line.end - line.from) (drop line.from text) }

abbrev pub lines_of : Sheet → List Shown
lines_of sheet = map (shown_at sheet.text.items) sheet.lines.items

-- the lines of all threads that have answered, those of the first one first
abbrev pub all_lines : List (Option Sheet) → List Shown
all_lines [] = []
all_lines (None ∷ sheets) = all_lines sheets
all_lines (Some sheet ∷ sheets) = lines_of sheet ++ all_lines sheets

-- a line comes before another one: its exchange has stood still for longer
abbrev pub comes_first : Line → Line → Bool
comes_first one other = nat_lt other.still one.still

-- the same lines, the longest still first, and those of one standstill as they came
pub record AreLongestFirst (lines order : List Line) : Type 0 where
  pub same : IsPermutation lines order
  pub falling : IsSortedBy comes_first order
  pub ties : IsStableBy comes_first lines order

-- lines in the order in which they are shown: as they came, or as the waiting ones are
abbrev pub AreOrdered : (waiting : Bool) → (lines order : List Line) → Type 0
AreOrdered true lines order = AreLongestFirst lines order
AreOrdered false lines order = order ≡ lines

-- lines as one text
abbrev pub joined : List Shown → List ℕ
joined [] = []
joined (line ∷ lines) = line.text ++ joined lines

-- a number between texts
unfoldable pub counted_text : List ℕ → ℕ → List ℕ → List ℕ
counted_text before n after = before ++ numeral 10 n ++ after

-- a line for each thread that gave no answer, of threads of which the first has this number
abbrev pub silent_text : ℕ → List (Option Sheet) → List ℕ
silent_text thread [] = []
silent_text thread (None ∷ sheets) =
    counted_text (codes "# thread ") thread (codes ": no answer\n") ++ silent_text (thread + 1) sheets
silent_text thread (Some sheet ∷ sheets) = silent_text (thread + 1) sheets

-- a sum, as far as numbers go
abbrev pub bounded_sum : ℕ → ℕ → ℕ
bounded_sum n k = min (n + k) (2 ^ 64 - 1)

-- the users in no exchange, after so many
abbrev pub idle_from : ℕ → List (Option Sheet) → ℕ
idle_from n [] = n
idle_from n (None ∷ sheets) = idle_from n sheets
idle_from n (Some sheet ∷ sheets) = idle_from (bounded_sum n sheet.idle) sheets

-- the lines for which there was no room, after so many
abbrev pub left_out_from : ℕ → List (Option Sheet) → ℕ
left_out_from n [] = n
left_out_from n (None ∷ sheets) = left_out_from n sheets
left_out_from n (Some sheet ∷ sheets) = left_out_from (bounded_sum n sheet.left_out) sheets

-- so many lines were left out, if any, and the line ends
unfoldable pub left_out_text : ℕ → List ℕ
left_out_text n = if n == 0 then codes "\n" else counted_text (codes ", ") n (codes " left out\n")

-- so many exchanges are shown, and so many users are in none
unfoldable pub counts_text : (lines idle : ℕ) → List ℕ
counts_text lines idle = counted_text (codes "# ") lines (codes " exchanges, ") ++ counted_text [] idle (codes " idle")

-- the line that counts
unfoldable pub last_text : ℕ → List (Option Sheet) → List ℕ
last_text lines sheets = counts_text lines (idle_from 0 sheets) ++ left_out_text (left_out_from 0 sheets)

-- lines, a line for each thread without an answer, and the line that counts
unfoldable pub shown_text : List Line → List (Option Sheet) → List ℕ
shown_text lines sheets = joined (map seen lines) ++ silent_text 0 sheets ++ last_text (length lines) sheets

-- the text shows all lines of all threads in their order
pub record Shows (waiting : Bool) (sheets : List (Option Sheet)) (text : List ℕ) : Type 0 where
  -- the lines as they came
  pub lines : List Line
  pub all : map seen lines ≡ all_lines sheets
  pub order : List Line
  pub ordered : AreOrdered waiting lines order
  pub is : text ≡ shown_text order sheets
