-- What a thread writes of its exchanges, in memory that was taken beforehand.
use Rattle.std.specs.Prelude.{◌≡◌, ℕ, ◌+◌, ◌-◌, ◌^◌, ◌≤◌, ◌<◌, List, [], ◌∷◌, ◌++◌, length, take, min, slice_get, Option, Some, None}
use Rattle.std.specs.Vec.{vec_len, vec_capacity}
use Rattle.event_loop.specs.declared.sheet.SheetLine.{SheetLine}
use Rattle.event_loop.specs.declared.sheet.Sheet.{Sheet}

-- nothing is written on a sheet
pub record IsBlank (sheet : Sheet) : Type 0 where
  pub text : sheet.text.items ≡ []
  pub lines : sheet.lines.items ≡ []
  pub idle : sheet.idle ≡ 0
  pub left_out : sheet.left_out ≡ 0

-- a sheet has room for one more line of so many bytes
pub record HasRoom (bytes : ℕ) (sheet : Sheet) : Type 0 where
  pub text : vec_len sheet.text + bytes ≤ vec_capacity sheet.text
  pub line : vec_len sheet.lines < vec_capacity sheet.lines

-- where a line ends, if there is one
abbrev pub end_of : Option SheetLine → ℕ
end_of (Some line) = line.end
end_of None = 0

-- where the last line ends
abbrev pub written_to : List SheetLine → ℕ
written_to lines = end_of (slice_get lines (length lines - 1))

-- a sheet has room for so many bytes after its last line, and for that line
pub record TakesLine (bytes : ℕ) (sheet : Sheet) : Type 0 where
  pub text : min (written_to sheet.lines.items) (vec_len sheet.text) + bytes ≤ vec_capacity sheet.text
  pub line : vec_len sheet.lines < vec_capacity sheet.lines

-- one more, as far as numbers go
abbrev pub one_more : ℕ → ℕ
one_more n = min (n + 1) (2 ^ 64 - 1)

-- the text ends with the last line, and nothing else is changed
pub record IsCut (old new : Sheet) : Type 0 where
  pub text : new.text.items ≡ take (written_to old.lines.items) old.text.items
  pub capacity : vec_capacity new.text ≡ vec_capacity old.text
  pub lines : new.lines ≡ old.lines
  pub idle : new.idle ≡ old.idle
  pub left_out : new.left_out ≡ old.left_out

-- a line was left out, and nothing else is changed
pub record IsCounted (old new : Sheet) : Type 0 where
  pub text : new.text ≡ old.text
  pub lines : new.lines ≡ old.lines
  pub idle : new.idle ≡ old.idle
  pub left_out : new.left_out ≡ one_more old.left_out

-- what was written since the last line is one more line, and nothing else is changed
pub record IsEnded (still : ℕ) (old new : Sheet) : Type 0 where
  pub text : new.text ≡ old.text
  pub lines : new.lines.items
      ≡ old.lines.items ++ record { still = still; from = written_to old.lines.items; end = length old.text.items } ∷ []
  pub idle : new.idle ≡ old.idle
  pub left_out : new.left_out ≡ old.left_out

-- one more user is in no exchange, and nothing else is changed
pub record CountsIdle (old new : Sheet) : Type 0 where
  pub text : new.text ≡ old.text
  pub lines : new.lines ≡ old.lines
  pub idle : new.idle ≡ one_more old.idle
  pub left_out : new.left_out ≡ old.left_out
