-- What a connection over a reader and a writer has written of what it has read.
use Rattle.std.specs.Prelude.{◌≡◌, ℕ, ◌⊎◌, ◌++◌, false, List, Option, Some, None, ⊤}
use Rattle.std.specs.Io.KnownBytes.{Appends, Consumes}
use Rattle.icap_services.specs.Texts.{Shown, shown}
use Rattle.icap_server.specs.declared.side.ServerSide.{ServerSide}
use Rattle.icap_server.specs.Answers.{Answers, AnswersUntilMemoryRanOut}
use Rattle.icap_server.specs.Served.{HasServed, is_closed}

-- these are all of the bytes, where those are known
abbrev pub AreAll : Option (List ℕ) → List ℕ → Type 0
AreAll None bytes = ⊤
AreAll (Some all) bytes = all ≡ bytes

-- the answers to all of the reader's bytes were added to what the writer holds; or, if memory ran out, those to a prefix of
-- them and a 500
pub record AnswersAll (s : Shown) (reader old new : Option (List ℕ)) : Type 0 where
  pub bytes : List ℕ
  pub text : List ℕ
  pub all : AreAll reader bytes
  pub answers : Answers s bytes text ⊎ AnswersUntilMemoryRanOut s bytes text
  pub written : Appends old new text

-- the answers to just what was read of the reader's bytes were added; it has these left
pub record AnswersRead (s : Shown) (reader left old new : Option (List ℕ)) : Type 0 where
  pub read : List ℕ
  pub text : List ℕ
  pub cut : Consumes reader left read
  pub answers : Answers s read text
  pub written : Appends old new text

-- the answers to a prefix of the reader's bytes were added
abbrev pub AnswersFront : Shown → Option (List ℕ) → Option (List ℕ) → Option (List ℕ) → Type 0
AnswersFront s reader old new = (left : Option (List ℕ)) × AnswersRead s reader left old new

-- what a side answers to a piece was added
pub record WritesOn (side : ServerSide) (piece : List ℕ) (side' : ServerSide) (old new : Option (List ℕ)) : Type 0 where
  pub text : List ℕ
  pub written : Appends old new text
  pub served : (stream answered : List ℕ) → HasServed stream answered side → HasServed (stream ++ piece) (answered ++ text) side'

-- a connection that goes on: what has come of the reader's bytes, and what was added, are what the side has read and answered
pub record ServesOn (s : Shown) (reader left old new : Option (List ℕ)) (side : ServerSide) : Type 0 where
  pub come : List ℕ
  pub text : List ℕ
  pub cut : Consumes reader left come
  pub written : Appends old new text
  pub served : HasServed come text side
  pub open_side : is_closed side.stage ≡ false
  pub settings : shown side.settings ≡ s
