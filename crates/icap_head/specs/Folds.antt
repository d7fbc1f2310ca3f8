-- Folded fields (RFC 2616, sections 2.2 and 4.2; RFC 9112, section 5.2): a line end with a blank after it goes on with its line.
-- It is read as a space for each of its bytes. The start line's end is none, nor is the empty line's.
use Rattle.std.specs.Prelude.{ℕ, Bool, true, false, List, [], ◌∷◌, ◌++◌, length, take, nat_lt, if◌then◌else◌, ◌==◌}
use Rattle.adapt_bytes.specs.Text.{is_blank}
use Rattle.adapt_bytes.specs.declared.limits.TheConstants.{MAX_HEAD}
use Rattle.icap_head.specs.declared.folds.HeadByte.{HeadByte}
use Rattle.icap_head.specs.declared.folds.HeadByte.TheVariants as bytes
use Rattle.icap_head.specs.declared.folds.HeadPlace.{HeadPlace}
use Rattle.icap_head.specs.declared.folds.HeadPlace.TheVariants.{StartLine, LineStart, BareReturn, Text, Return, Feed, ReturnFeed, Over}

abbrev pub head_byte : ℕ → HeadByte
head_byte b = if b == 10 then bytes.Feed else (if b == 13 then bytes.Return else (if is_blank b then bytes.Blank else bytes.Other))

-- the place after one more byte
abbrev pub place_after : HeadPlace → HeadByte → HeadPlace
place_after StartLine bytes.Feed = LineStart
place_after StartLine _ = StartLine
place_after LineStart bytes.Feed = Over
place_after LineStart bytes.Return = BareReturn
place_after LineStart _ = Text
place_after BareReturn bytes.Feed = Over
place_after BareReturn _ = Text
place_after Text bytes.Feed = Feed
place_after Text bytes.Return = Return
place_after Text _ = Text
place_after Return bytes.Feed = ReturnFeed
place_after Return _ = Text
place_after Feed bytes.Feed = Over
place_after Feed bytes.Return = BareReturn
place_after Feed _ = Text
place_after ReturnFeed bytes.Feed = Over
place_after ReturnFeed bytes.Return = BareReturn
place_after ReturnFeed _ = Text
place_after Over _ = Over

-- the end of a line that isn't empty, or a part of that end: it may be a fold
abbrev pub held : HeadPlace → List ℕ
held Return = 13 ∷ []
held Feed = 10 ∷ []
held ReturnFeed = 13 ∷ 10 ∷ []
held _ = []

abbrev pub is_held : HeadPlace → Bool
is_held Return = true
is_held Feed = true
is_held ReturnFeed = true
is_held _ = false

-- what is read in its place where this byte comes: spaces, if a blank makes it a fold
abbrev pub settled : HeadPlace → HeadByte → List ℕ
settled Feed bytes.Blank = 32 ∷ []
settled ReturnFeed bytes.Blank = 32 ∷ 32 ∷ []
settled place _ = held place

-- what one more byte adds
abbrev pub added : HeadPlace → ℕ → List ℕ
added place b = if is_held (place_after place (head_byte b)) then [] else settled place (head_byte b) ++ b ∷ []

-- the place after these bytes
abbrev pub place_behind : HeadPlace → List ℕ → HeadPlace
place_behind place [] = place
place_behind place (b ∷ text) = place_behind (place_after place (head_byte b)) text

-- what they add
abbrev pub all_added : HeadPlace → List ℕ → List ℕ
all_added place [] = []
all_added place (b ∷ text) = added place b ++ all_added (place_after place (head_byte b)) text

-- the first 16,384 bytes of a text that begins with a head, without folds; of fewer, a line end at the end isn't read yet
unfoldable pub unfolded : List ℕ → List ℕ
unfolded text =
    all_added StartLine (take MAX_HEAD text)
    ++ (if nat_lt (length text) MAX_HEAD then [] else held (place_behind StartLine (take MAX_HEAD text)))
