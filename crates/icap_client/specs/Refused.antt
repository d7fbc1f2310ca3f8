-- Why the bytes after those that were framed are refused.
use Rattle.std.specs.Prelude.{◌≡◌, ◌≢◌, ℕ, ◌<◌, ◌≤◌, ◌⊎◌, Bool, Some, List, [], ◌++◌, length, take}
use Rattle.adapt_bytes.specs.declared.limits.TheConstants.{MAX_HEAD}
use Rattle.icap_head.specs.Heads.{Response, HasResponse, RefusesResponse}
use Rattle.icap_head.specs.declared.reading.HeadFault.{HeadFault}
use Rattle.icap_head.specs.declared.reading.HeadFault.TheVariants as heads
use Rattle.encapsulated.specs.declared.offsets.Layout.{Layout}
use Rattle.icap_chunks.specs.Machine.{HasRead, end_of}
use Rattle.icap_chunks.specs.Faults.{Breaks}
use Rattle.icap_chunks.specs.declared.fault.ChunkFault.{ChunkFault}
use Rattle.icap_chunks.specs.declared.reader.ChunkReader.{ChunkReader}
use Rattle.trace_core.specs.declared.history.Event.TheVariants.{Continue, NoMod, Mod, Ad, AdEnd}
use Rattle.trace_core.specs.declared.history.Point.{Point}
use Rattle.trace_core.specs.declared.history.Seen.{Seen}
use Rattle.icap_client.specs.Events.{MayCome, MayHear}
use Rattle.icap_client.specs.Replies.{lists_of, HasNothing, HasLayout, HasAdaptedHead, IsModHead, IsEncapsulatedHead, has_body, payload_if}
use Rattle.icap_client.specs.Said.{says_close}
use Rattle.icap_client.specs.Heard.{Reader}
use Rattle.icap_client.specs.Hearing.{HasNoEmptyLine, ReadsOn}
use Rattle.adapt_sides.specs.declared.fault.ClientFault.{ClientFault}
use Rattle.adapt_sides.specs.declared.fault.ClientFault.TheVariants as faults
use Rattle.icap_client.specs.declared.replies.Reply.{Reply}
use Rattle.icap_client.specs.declared.replies.Reply.TheVariants as replies
use Rattle.icap_client.specs.declared.stage.Stage.{Stage}
use Rattle.icap_client.specs.declared.stage.Stage.TheVariants.{Replies, Head, Body, Over}

-- the bytes begin with the head of a response for which P holds
abbrev pub WithHead : List ℕ → (Response → Type 0) → Type 0
WithHead raw P = (value : Response) × (size : ℕ) × HasResponse raw value size × P value

-- the response's list may not be: with 100 and 204 it says nothing, with 200 it has an adapted head
abbrev pub HasBadList : Point → Response → Type 0
HasBadList point value =
    (((value.status ≡ 100) ⊎ (value.status ≡ 204)) × ¬ (HasNothing point (lists_of value)))
    ⊎ ((value.status ≡ 200) × ((layout : Layout) → HasLayout point (lists_of value) layout → ¬ (HasAdaptedHead layout)))

-- a 100 or 204, well formed, may not come now
abbrev pub IsUntimely : Point → Seen → Response → Type 0
IsUntimely point x value =
    ((value.status ≡ 100) × HasNothing point (lists_of value) × ¬ (MayCome x Continue))
    ⊎ ((value.status ≡ 204) × HasNothing point (lists_of value) × ¬ (MayCome x NoMod))

-- the status is none of the three
pub record IsOtherStatus (value : Response) : Type 0 where
  pub not_continue : value.status ≢ 100
  pub not_ok : value.status ≢ 200
  pub not_unchanged : value.status ≢ 204

-- why bytes with an ICAP head first are refused
abbrev pub RefusesReply : ClientFault → Seen → Point → List ℕ → Type 0
RefusesReply faults.Head x point raw = (fault : HeadFault) × (fault ≢ heads.More) × RefusesResponse fault raw
RefusesReply faults.Layout x point raw = WithHead raw (HasBadList point)
RefusesReply faults.NotLegal x point raw = WithHead raw (IsUntimely point x)
RefusesReply faults.Status x point raw = WithHead raw IsOtherStatus
RefusesReply faults.NoMemory x point raw = Unit {0}
RefusesReply _ x point raw = ⊥

-- the adapted message's head doesn't end at the layout's last byte of it
pub data IsMisfit (layout : Layout) (raw : List ℕ) : Type 0 where
  ends_early : (size : ℕ) → size ≤ length raw → IsEncapsulatedHead (take size raw) → size ≢ layout.offset → size ≤ layout.offset
      → IsMisfit layout raw
  ends_late : layout.offset ≤ length raw → HasNoEmptyLine (take layout.offset raw) → IsMisfit layout raw

-- it ends just there
pub record IsFit (layout : Layout) (raw : List ℕ) : Type 0 where
  pub there : layout.offset ≤ length raw
  pub is : IsEncapsulatedHead (take layout.offset raw)

-- why bytes with an adapted message's head first are refused; one that fits is a response that may not come
abbrev pub RefusesHead : ClientFault → Seen → Layout → List ℕ → Type 0
RefusesHead faults.Layout x layout raw = IsMisfit layout raw
RefusesHead faults.NotLegal x layout raw = IsFit layout raw × ¬ (MayCome x (Mod (payload_if (has_body layout.body))))
RefusesHead faults.NoMemory x layout raw = Unit {0}
RefusesHead _ x layout raw = ⊥

-- bytes of a body came that may not come now, or its end
pub data IsUntimelyBody (x : Seen) (chunks : ChunkReader) (raw : List ℕ) : Type 0 where
  bytes : (used : ℕ) (part : List ℕ) (new : ChunkReader) → ReadsOn chunks raw used part new → 0 < length part
      → ¬ (MayHear x (Ad (length part))) → IsUntimelyBody x chunks raw
  end : (used : ℕ) (new : ChunkReader) (ieof : Bool) → ReadsOn chunks raw used [] new → end_of new ≡ Some ieof → ¬ (MayHear x AdEnd)
      → IsUntimelyBody x chunks raw

-- why bytes of a body are refused
abbrev pub RefusesBody : ClientFault → Seen → ChunkReader → List ℕ → Type 0
RefusesBody faults.Chunk x chunks raw = (fault : ChunkFault) × ((text body : List ℕ) → HasRead text body chunks
    → Breaks (text ++ raw) body fault)
RefusesBody faults.NotLegal x chunks raw = IsUntimelyBody x chunks raw
RefusesBody _ x chunks raw = ⊥

-- after the ICAP head of a 200 its other head is refused
pub record RefusesBehind (fault : ClientFault) (x : Seen) (point : Point) (raw : List ℕ) : Type 0 where
  pub icap : List ℕ
  pub rest : List ℕ
  pub layout : Layout
  pub raw_is : raw ≡ icap ++ rest
  pub is : IsModHead point layout icap
  pub refuses : RefusesHead fault x layout rest

-- why these bytes are refused, by how far the reader is
abbrev pub Refuses : ClientFault → Seen → Point → Stage → List ℕ → Type 0
Refuses fault x point Replies raw = RefusesReply fault x point raw ⊎ RefusesBehind fault x point raw
Refuses fault x point (Head layout) raw = RefusesHead fault x layout raw
Refuses fault x point (Body chunks) raw = RefusesBody fault x chunks raw
Refuses fault x point Over raw = ⊥

-- ---- one response

-- the response's head says that
abbrev pub SpellsReply : Point → Response → Reply → Type 0
SpellsReply point value replies.Continue = (value.status ≡ 100) × HasNothing point (lists_of value)
SpellsReply point value replies.NoMod = (value.status ≡ 204) × HasNothing point (lists_of value)
SpellsReply point value (replies.Mod layout) = (value.status ≡ 200) × HasLayout point (lists_of value) layout × HasAdaptedHead layout

-- the reader has noted the head of this size that the raw bytes begin with, and which says that
pub record IsNoted (r : Reader) (reply : Reply) (raw : List ℕ) (size : ℕ) : Type 0 where
  pub value : Response
  pub head : HasResponse raw value size
  pub inside : size ≤ length raw
  pub says : SpellsReply r.point value reply
  pub remarks_are : r.remarks ≡ value.fields
  pub closes_is : r.closes ≡ says_close value.fields

-- the response may come now; for a 200 that is asked once its other head is read
abbrev pub MayReply : Seen → Reply → Type 0
MayReply x replies.Continue = MayCome x Continue
MayReply x replies.NoMod = MayCome x NoMod
MayReply x (replies.Mod layout) = Unit {0}

-- no response that is taken has such a head
abbrev pub SpellsNoReply : ClientFault → Point → Response → Type 0
SpellsNoReply faults.Layout point value = HasBadList point value
SpellsNoReply faults.Status point value = IsOtherStatus value
SpellsNoReply _ point value = ⊥

-- the head that a 200 announces keeps its limits
abbrev pub LimitsOf : Reply → Type 0
LimitsOf replies.Continue = Unit {0}
LimitsOf replies.NoMod = Unit {0}
LimitsOf (replies.Mod layout) = (1 ≤ layout.offset) × (layout.offset ≤ MAX_HEAD)
