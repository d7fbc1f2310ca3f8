-- What framing bytes does, and when no more can be framed.
use Rattle.std.specs.Prelude.{◌≡◌, ℕ, ◌<◌, ◌≤◌, ◌⊎◌, true, false, List, [], ◌++◌, length, take}
use Rattle.icap_head.specs.Heads.{RefusesResponse}
use Rattle.icap_head.specs.declared.reading.HeadFault.TheVariants.{More}
use Rattle.icap_chunks.specs.Machine.{HasRead}
use Rattle.icap_chunks.specs.declared.reader.ChunkReader.{ChunkReader}
use Rattle.encapsulated.specs.declared.offsets.Layout.{Layout}
use Rattle.trace_core.specs.declared.history.Event.{Event}
use Rattle.trace_core.specs.declared.history.Seen.{Seen}
use Rattle.icap_client.specs.Events.{after_all, MayAllFollow, AllAre, is_of_replies}
use Rattle.icap_client.specs.Replies.{ends_in_empty_line, IsModHead}
use Rattle.icap_client.specs.Heard.{Reader, HasHeard}
use Rattle.icap_client.specs.declared.stage.Stage.{Stage}
use Rattle.icap_client.specs.declared.stage.Stage.TheVariants.{Replies, Head, Body, Over}

-- the events may come, after a first byte that was read before, and say what these further bytes do, of which these are adapted ones
pub record ReaderHears (x : Seen) (old new : Reader) (events : List Event) (bytes part : List ℕ) : Type 0 where
  pub legal : MayAllFollow x events
  pub only : AllAre is_of_replies events
  pub behind : (events ≡ []) ⊎ (x.heard ≡ true)
  pub heard : (adapted read : List ℕ) → HasHeard x adapted read old → HasHeard (after_all x events) (adapted ++ part) (read ++ bytes) new

-- no event came of these bytes: they are a prefix of an ICAP head, and none was used; or the ICAP head of a 200 was used
pub data PassesWithoutEvent (old new : Reader) (used : ℕ) (raw : List ℕ) : Type 0 where
  waits : used ≡ 0 → new.stage ≡ old.stage → new.point ≡ old.point → RefusesResponse More raw → PassesWithoutEvent old new used raw
  goes_on : (layout : Layout) → new.stage ≡ Head layout → new.point ≡ old.point → IsModHead old.point layout (take used raw)
      → PassesWithoutEvent old new used raw

-- there is no empty line in the text
abbrev pub HasNoEmptyLine : List ℕ → Type 0
HasNoEmptyLine text = (k : ℕ) → k ≤ length text → ends_in_empty_line (take k text) ≡ false

-- this many of these bytes are read, and these are the bytes of the body in them
abbrev pub ReadsOn : ChunkReader → List ℕ → ℕ → List ℕ → ChunkReader → Type 0
ReadsOn old raw used part new = (text body : List ℕ) → HasRead text body old → HasRead (text ++ take used raw) (body ++ part) new

-- the next byte is one of the body
pub record IsBodyNext (chunks : ChunkReader) (raw : List ℕ) : Type 0 where
  pub part : List ℕ
  pub new : ChunkReader
  pub some : 0 < length part
  pub reads : ReadsOn chunks raw 1 part new

-- none of these bytes can be framed yet, with room for this many adapted ones: a head isn't whole, or the next byte is one of
-- the body and there is no room; after a whole final response no byte is framed any more
abbrev pub MustWait : Stage → List ℕ → ℕ → Type 0
MustWait Replies raw room = RefusesResponse More raw
MustWait (Head layout) raw room = (length raw < layout.offset) × HasNoEmptyLine raw
MustWait (Body chunks) raw room = (raw ≡ []) ⊎ ((room ≡ 0) × IsBodyNext chunks raw)
MustWait Over raw room = Unit {0}
