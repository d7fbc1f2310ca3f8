-- A source's body, as far as it was read.
use Rattle.std.specs.Prelude.{◌≡◌, ℕ, ◌+◌, ◌<◌, ◌≤◌, ◌⊎◌, ◌||◌, Bool, true, false, List, [], ◌++◌, length, Some, IfSome}
use Rattle.adapt_bytes.specs.declared.limits.TheConstants.{COUNT_LIMIT}
use Rattle.icap_chunks.specs.declared.fault.ChunkFault.{ChunkFault}
use Rattle.http_side.specs.Body.{HasRead, IsBody, IsClosedBody, is_over, runs_past}
use Rattle.http_side.specs.declared.body.Framing.{Framing}
use Rattle.trace_core.specs.declared.history.Event.{Event}
use Rattle.trace_core.specs.declared.history.Seen.{Seen}
use Rattle.http_relay.specs.Body.{IsBodyNext, IsBroken}
use Rattle.http_relay.specs.Message.{length_of}
use Rattle.trace_core.specs.Turns.{after_all, MayAllFollow, AllAre, is_of_source}
use Rattle.http_relay.specs.declared.source_body.SourceBody.{SourceBody}
use Rattle.adapt_sides.specs.declared.fault.RelayFault.{RelayFault}
use Rattle.adapt_sides.specs.declared.fault.RelayFault.TheVariants as faults

-- this many more bytes of the body may be reported, and then its end
pub record MayTell (s : SourceBody) (count : ℕ) (ended : Bool) : Type 0 where
  pub sum : s.received + count < COUNT_LIMIT
  pub len : IfSome (length_of s.framing) (λ len. s.received + count ≤ len)
  pub end : ended ≡ true → IfSome (length_of s.framing) (λ len. s.received + count ≡ len)

-- so many bytes that come next are the body's, whatever they are, and may be reported, and it goes on after them
pub record RunsPast (count : ℕ) (s : SourceBody) : Type 0 where
  pub going_on : s.ended ≡ false
  pub runs : runs_past count s.reader ≡ true
  pub tells : MayTell s count false

-- its numbers are those of what is seen; a length that the plan knows is the framing's
pub record Agrees (x : Seen) (s : SourceBody) : Type 0 where
  pub received : x.received ≡ s.received
  pub ended : x.ended ≡ s.ended
  pub len : IfSome x.plan.len (λ len. length_of s.framing ≡ Some len)

-- the text is a whole body: by its framing alone, or because the wire has ended after it
abbrev pub IsWholeBody : Framing → (closed : Bool) → List ℕ → List ℕ → Type 0
IsWholeBody framing closed text body = IsBody framing text body ⊎ ((closed ≡ true) × IsClosedBody framing text body)

-- of the text this was read, and these bytes of the body came; its end was reported only if the text is a whole body
pub record BodyRead (x : Seen) (body text : List ℕ) (closed : Bool) (s : SourceBody) : Type 0 where
  pub count : x.received ≡ length body
  pub ended : x.ended ≡ s.ended
  pub reads : HasRead s.framing text body s.reader
  pub whole : s.ended ≡ true → IsWholeBody s.framing closed text body

-- these events report what these further bytes do, with these of the body, and the wire's end, if it has ended now
pub record BodyReads (old new : SourceBody) (events : List Event) (bytes part : List ℕ) (ended : Bool) : Type 0 where
  pub only : AllAre is_of_source events
  pub legal : (x : Seen) → Agrees x old → x.closed ≡ false → MayAllFollow x events × Agrees (after_all x events) new
  pub reads : (x : Seen) (body text : List ℕ) (closed : Bool) → BodyRead x body text closed old
      → BodyRead (after_all x events) (body ++ part) (text ++ bytes) (ended || closed) new

-- the end is reported just when the framing gives it; one that was reported stays
pub record TellsEnd (old new : SourceBody) : Type 0 where
  pub just : old.ended ≡ false → new.ended ≡ is_over new.reader
  pub stays : old.ended ≡ true → new.ended ≡ true

-- none of these bytes can be framed, with this much room: the end was reported, no byte is there, or the next is one of the body
-- and there is no room
abbrev pub MustWait : SourceBody → List ℕ → ℕ → Type 0
MustWait s raw room = (s.ended ≡ true) ⊎ ((raw ≡ []) ⊎ ((room ≡ 0) × IsBodyNext s.reader raw))

-- the close cuts the body short
abbrev pub IsCutShort : SourceBody → Type 0
IsCutShort s = (way : Framing) (text body : List ℕ) → HasRead way text body s.reader → IsClosedBody way text body → ⊥

-- Why bytes of a body are refused. For its length only if there may be too many to count, which no Content-Length allows.
abbrev pub Refuses : RelayFault → SourceBody → List ℕ → Type 0
Refuses faults.Chunk s raw = (fault : ChunkFault) × IsBroken s.reader raw fault
Refuses faults.Length s raw = (x : Seen) (body text : List ℕ) (closed : Bool) → Agrees x s → BodyRead x body text closed s
    → (COUNT_LIMIT ≤ s.received + length raw) × IfSome (length_of s.framing) (λ len. COUNT_LIMIT ≤ len)
Refuses _ s raw = ⊥
