-- What an OPTIONS request and its answer are (RFC 3507, section 4.10), and how far a side is with both.
use Rattle.std.specs.Prelude.{◌≡◌, ◌≢◌, ℕ, ◌<◌, ◌≤◌, ◌⊎◌, Bool, true, false, List, [], ◌∷◌, ◌++◌, length, codes, Option, Some, None, IfSome}
use Rattle.std.specs.Prelude.{IfNone, IfOk, is_some, option_map, Result, Ok, Err}
use Rattle.adapt_bytes.specs.Numeral.{numeral}
use Rattle.icap_chunks.specs.Grammar.{crlf, IsChunked}
use Rattle.icap_chunks.specs.Machine.{HasRead, end_of, fault_of}
use Rattle.icap_chunks.specs.Faults.{Breaks}
use Rattle.icap_chunks.specs.declared.fault.ChunkFault.{ChunkFault}
use Rattle.icap_chunks.specs.declared.reader.ChunkReader.{ChunkReader}
use Rattle.icap_head.specs.Heads.{Response, RefusesResponse, response_parts}
use Rattle.icap_head.specs.declared.reading.HeadFault.{HeadFault}
use Rattle.icap_head.specs.declared.reading.HeadFault.TheVariants as heads
use Rattle.icap_head.specs.declared.responses.IcapResponse.{IcapResponse}
use Rattle.encapsulated.specs.Layouts.{IsLayout}
use Rattle.encapsulated.specs.declared.offsets.Layout.{Layout}
use Rattle.adapt_bytes.specs.declared.method.Method.TheVariants as methods
use Rattle.encapsulated.specs.declared.message.Direction.TheVariants as directions
use Rattle.wire_kit.specs.Past.{Past, Offers, part_taken}
use Rattle.wire_kit.specs.declared.wire.Put.{Put}
use Rattle.wire_kit.specs.declared.wire.Put.TheVariants as put
use Rattle.icap_client.specs.HeadFront.{IsHeadFront}
use Rattle.icap_client.specs.Replies.{IsHead, lists_of, has_body}
use Rattle.icap_client.specs.RequestHead.{joined, host_pieces}
use Rattle.adapt_sides.specs.declared.fault.ClientFault.{ClientFault}
use Rattle.adapt_sides.specs.declared.fault.ClientFault.TheVariants as faults
use Rattle.adapt_sides.specs.Filling.{IsFilled}
use Rattle.icap_client.specs.Refused.{WithHead}
use Rattle.adapt_sides.specs.declared.filling.Filled.{Filled}
use Rattle.adapt_sides.specs.declared.filling.Filled.TheVariants as fills
use Rattle.icap_client.specs.declared.options.OptionsStage.{OptionsStage}
use Rattle.icap_client.specs.declared.options.OptionsStage.TheVariants.{Head, Body, Over}

-- the request line
abbrev pub options_pieces : List ℕ → ℕ → List ℕ → List (List ℕ)
options_pieces host port path = codes "OPTIONS icap://" ∷ host ∷ codes ":" ∷ numeral 10 port ∷ path ∷ codes " ICAP/1.0" ∷ crlf ∷ []

-- the whole request, which encapsulates nothing
abbrev pub options_request : List ℕ → ℕ → List ℕ → List ℕ
options_request host port path =
    joined (codes "Encapsulated: null-body=0" ∷ crlf ∷ crlf ∷ [])
    (joined (host_pieces host port)
    (joined (options_pieces host port path) []))

-- of the Encapsulated fields' values: there is none, and no body; or just one, which says whether there is one
abbrev pub HasOptionsBody : List (List ℕ) → Bool → Type 0
HasOptionsBody [] body = body ≡ false
HasOptionsBody (list ∷ []) body = (layout : Layout) × IsLayout methods.Options directions.Response list layout
    × (body ≡ has_body layout.body)
HasOptionsBody (list ∷ other ∷ more) body = ⊥

-- the text is a whole answer with this head: the head, and after it a chunked body that its list names, or nothing
pub record IsOptionsAnswer (value : Response) (text : List ℕ) : Type 0 where
  pub head : List ℕ
  pub rest : List ℕ
  pub text_is : text ≡ head ++ rest
  pub head_is : IsHead head value
  pub body_is : (HasOptionsBody (lists_of value) false × (rest ≡ []))
      ⊎ (HasOptionsBody (lists_of value) true × ((body : List ℕ) × (ieof : Bool) × IsChunked rest body ieof))

-- the text is a head with a body, and a first part of that body, which goes on
pub record IsOptionsFront (value : Response) (chunks : ChunkReader) (text : List ℕ) : Type 0 where
  pub head : List ℕ
  pub rest : List ℕ
  pub body : List ℕ
  pub text_is : text ≡ head ++ rest
  pub head_is : IsHead head value
  pub list : HasOptionsBody (lists_of value) true
  pub read : HasRead rest body chunks
  pub going_on : end_of chunks ≡ None
  pub no_fault : fault_of chunks ≡ None

-- ---- why an answer is refused

-- the response's list isn't one of an OPTIONS answer
abbrev pub HasBadOptionsList : Response → Type 0
HasBadOptionsList value = (body : Bool) → ¬ (HasOptionsBody (lists_of value) body)

-- the bytes begin with a head
abbrev pub HasAnyHead : List ℕ → Type 0
HasAnyHead raw = WithHead raw (λ value. Unit {0})

-- of bytes with an ICAP head first; memory is wanted once the head is there
abbrev pub RefusesOptionsHead : ClientFault → List ℕ → Type 0
RefusesOptionsHead faults.Head raw = (fault : HeadFault) × (fault ≢ heads.More) × RefusesResponse fault raw
RefusesOptionsHead faults.Layout raw = WithHead raw HasBadOptionsList
RefusesOptionsHead faults.NoMemory raw = HasAnyHead raw
RefusesOptionsHead _ raw = ⊥

-- of bytes of its body: one breaks it, after this part of the body
abbrev pub RefusesOptionsBody : ClientFault → ChunkReader → List ℕ → Type 0
RefusesOptionsBody faults.Chunk chunks raw = (fault : ChunkFault) × (part : List ℕ)
    × ((text body : List ℕ) → HasRead text body chunks → Breaks (text ++ raw) (body ++ part) fault)
RefusesOptionsBody _ chunks raw = ⊥

-- by how far the answer is read
abbrev pub RefusesOptions : ClientFault → OptionsStage → List ℕ → Type 0
RefusesOptions fault Head raw = RefusesOptionsHead fault raw
RefusesOptions fault (Body chunks) raw = RefusesOptionsBody fault chunks raw
RefusesOptions fault Over raw = ⊥

-- ---- a side

-- a side: the request's text that waits, how far the answer is read, its head while a body comes, the bytes that aren't
-- framed yet, the fault that stays, and the room after those bytes
pub record Asker : Type 0 where
  pub waiting : List ℕ
  pub stage : OptionsStage
  pub response : Option Response
  pub raw : List ℕ
  pub fault : Option ClientFault
  pub room : ℕ

-- this many bytes of a text of this length are out, and its memory has this room: 0 once all of it is out
abbrev pub HoldsText : ℕ → ℕ → ℕ → Type 0
HoldsText out long room = (out ≤ long) × (long ≤ out → room ≡ 0)

-- while a body comes its head is kept, and the body has neither ended nor broken
abbrev pub HoldsHead : OptionsStage → Option IcapResponse → Type 0
HoldsHead Head response = Unit {0}
HoldsHead (Body chunks) response = (is_some response ≡ true) × (end_of chunks ≡ None) × (fault_of chunks ≡ None)
HoldsHead Over response = Unit {0}

-- no more than room was given back, and all of it if there are no bytes
pub record LetsRoomGo (old new : Asker) : Type 0 where
  pub waiting : new.waiting ≡ old.waiting
  pub stage : new.stage ≡ old.stage
  pub response : new.response ≡ old.response
  pub raw : new.raw ≡ old.raw
  pub fault : new.fault ≡ old.fault
  pub none : new.raw ≡ [] → new.room ≡ 0

-- more bytes are wanted: of the head no line has ended since it was judged, and of the body none is left
abbrev pub HasToAsk : OptionsStage → List ℕ → Type 0
HasToAsk Head raw = IsHeadFront raw
HasToAsk (Body chunks) raw = raw ≡ []
HasToAsk Over raw = ⊥

-- this text was framed, by how far the answer is read
abbrev pub AnsweredTo : OptionsStage → Option Response → List ℕ → Type 0
AnsweredTo Head response text = text ≡ []
AnsweredTo (Body chunks) response text = (value : Response) × (response ≡ Some value) × IsOptionsFront value chunks text
AnsweredTo Over response text = (value : Response) × IsOptionsAnswer value text

-- these bytes were read, the raw ones among them
pub record HasAnswered (read : List ℕ) (s : Asker) : Type 0 where
  pub framed : List ℕ
  pub text_is : read ≡ framed ++ s.raw
  pub answered : AnsweredTo s.stage s.response framed

-- the head is answered with the answer's last byte, and never again
pub record Tells (old new : OptionsStage) (found : Option Response) : Type 0 where
  pub told : new ≡ Over → (old ≡ Over) ⊎ (is_some found ≡ true)
  pub whole : is_some found ≡ true → new ≡ Over
  pub once : old ≡ Over → (new ≡ Over) × (found ≡ None)

-- more of the raw bytes are framed, up to the end of an answer or not
pub record Frames (old new : Asker) (found : Option Response) : Type 0 where
  pub used : List ℕ
  pub raw_is : old.raw ≡ used ++ new.raw
  pub waiting : new.waiting ≡ old.waiting
  pub answered : (framed : List ℕ) → AnsweredTo old.stage old.response framed → AnsweredTo new.stage new.response (framed ++ used)
  pub answer : (framed : List ℕ) → AnsweredTo old.stage old.response framed → IfSome found (λ value. IsOptionsAnswer value (framed ++ used))
  pub tells : Tells old.stage new.stage found

-- after some of the raw bytes, which are framed and end no answer, the rest is refused
pub record RefusesRaw (fault : ClientFault) (old : Asker) : Type 0 where
  pub at : Asker
  pub frames : Frames old at None
  pub refuses : RefusesOptions fault at.stage at.raw

-- what was read says what is answered
pub record AnswersOptions (old new : Asker) (given : List ℕ) (found : Option Response) : Type 0 where
  pub answered : (read : List ℕ) → HasAnswered read old → HasAnswered (read ++ given) new
  pub answer : (read : List ℕ) → HasAnswered read old
      → IfSome found (λ value. (text : List ℕ) × IsOptionsAnswer value text × (read ++ given ≡ text ++ new.raw))
  pub tells : Tells old.stage new.stage found

-- with these bytes after those that were read, what isn't framed of them is refused
pub record RefusesGiven (fault : ClientFault) (old : Asker) (given : List ℕ) : Type 0 where
  pub at : Asker
  pub answers : AnswersOptions old at given None
  pub refuses : RefusesOptions fault at.stage at.raw

-- ---- a turn

-- what a turn asks of its wire, with the answer: it offers the text that waits, or reads, or leaves the wire alone
pub data Call : Type 0 where
  offered : Put → Call
  filled : Filled → Call
  rested : Call

-- the wire was asked this once, when it was due, and gave and took these bytes
abbrev pub IsCall : Call → (Past → Type 0) → (Past → Type 0) → Asker → List ℕ → List ℕ → Type 0
IsCall (offered answer) before after old given taken =
    (0 < length old.waiting) × Offers before after old.waiting (Some answer) × (given ≡ []) × (taken ≡ part_taken answer old.waiting)
IsCall (filled answer) before after old given taken =
    (old.waiting ≡ []) × ¬ (old.stage ≡ Over) × IsFilled before after [] given answer × (taken ≡ [])
IsCall rested before after old given taken = (old.waiting ≡ []) × ((p : Past) → before p → after p) × (given ≡ []) × (taken ≡ [])

-- what bytes make of a turn: the head of an answer, or why there is none; nothing only if more are wanted
abbrev pub FitsBytes : Asker → Asker → List ℕ → Result (Option IcapResponse) ClientFault → Type 0
FitsBytes old new given (Ok found) = IfNone found (HasToAsk new.stage new.raw)
FitsBytes old new given (Err fault) = RefusesGiven fault old given

-- and what the bytes that were kept make of it; nothing only after the answer's end
abbrev pub FitsKept : Asker → Result (Option IcapResponse) ClientFault → Type 0
FitsKept old (Ok found) = IfNone found (old.stage ≡ Over)
FitsKept old (Err fault) = RefusesGiven fault old []

-- what is answered, by what the wire was asked and said
abbrev pub FitsCall : Call → Asker → Asker → List ℕ → Result (Option IcapResponse) ClientFault → Type 0
FitsCall (offered (put.Took count)) old new given result = result ≡ Ok None
FitsCall (offered put.Wait) old new given result = result ≡ Ok None
FitsCall (offered put.Fault) old new given result = result ≡ Err faults.Device
FitsCall (filled fills.Bytes) old new given result = FitsBytes old new given result
FitsCall (filled fills.Wait) old new given result = (result ≡ Ok None) × HasToAsk new.stage new.raw
FitsCall (filled fills.Ended) old new given result = result ≡ Err faults.Closed
FitsCall (filled fills.Failed) old new given result = result ≡ Err faults.Device
FitsCall (filled fills.NoMemory) old new given result = result ≡ Err faults.NoMemory
FitsCall rested old new given result = FitsKept old result

-- A turn of a side without a fault: it offers the text that waits, once; or, if none waits, it reads once. After the
-- answer's end, and if the bytes that were kept decide what it answers, it leaves the wire alone.
pub record Asks (old new : Asker) (before after : Past → Type 0) (result : Result (Option IcapResponse) ClientFault) : Type 0 where
  pub call : Call
  pub given : List ℕ
  pub taken : List ℕ
  pub wire : IsCall call before after old given taken
  pub fits : FitsCall call old new given result
  pub sent : old.waiting ≡ taken ++ new.waiting
  pub answers : IfOk result (λ found. AnswersOptions old new given (option_map response_parts found))
