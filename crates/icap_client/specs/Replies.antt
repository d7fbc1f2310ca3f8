-- What the bytes of a service say (RFC 3507, sections 4.4 to 4.6): a 100 or none, then at most one final response,
-- which is a 204 alone, or a 200 with the heads that its list names and then a chunked body or none.
use Rattle.std.specs.Prelude.{◌≡◌, ℕ, ◌-◌, ◌<◌, ◌≤◌, ◌⊎◌, Bool, true, false, ◌&&◌, ◌||◌, nat_le, ◌==◌, List, [], ◌∷◌, ◌++◌, length, take}
use Rattle.std.specs.Prelude.{slice_index, codes, Some, None}
use Rattle.adapt_bytes.specs.Fields.{values_of}
use Rattle.adapt_bytes.specs.declared.limits.TheConstants.{MAX_HEAD}
use Rattle.icap_head.specs.Heads.{Response, HasResponse}
use Rattle.encapsulated.specs.Layouts.{IsLayout}
use Rattle.encapsulated.specs.declared.offsets.Layout.{Layout}
use Rattle.encapsulated.specs.declared.message.Direction.TheVariants as directions
use Rattle.encapsulated.specs.declared.parts.BodyPart.{BodyPart}
use Rattle.encapsulated.specs.declared.parts.BodyPart.TheVariants.{ReqBody, ResBody, OptBody, NullBody}
use Rattle.icap_chunks.specs.Grammar.{IsChunked}
use Rattle.trace_core.specs.declared.history.Payload.{Payload}
use Rattle.trace_core.specs.declared.history.Payload.TheVariants as payloads
use Rattle.trace_core.specs.declared.history.Point.{Point}
use Rattle.trace_core.specs.Points.{method_of}

-- ---- lists

-- the layout of a response that encapsulates nothing
pub record IsNothing (layout : Layout) : Type 0 where
  pub req_hdr : layout.req_hdr ≡ None
  pub res_hdr : layout.res_hdr ≡ None
  pub body : layout.body ≡ NullBody
  pub offset : layout.offset ≡ 0

-- of the Encapsulated fields' values: there is none, or just one, which says that nothing is encapsulated
abbrev pub HasNothing : Point → List (List ℕ) → Type 0
HasNothing point [] = Unit {0}
HasNothing point (list ∷ []) = (layout : Layout) × IsLayout (method_of point) directions.Response list layout × IsNothing layout
HasNothing point (list ∷ other ∷ more) = ⊥

-- there is just one, which says this
abbrev pub HasLayout : Point → List (List ℕ) → Layout → Type 0
HasLayout point [] layout = ⊥
HasLayout point (list ∷ []) layout = IsLayout (method_of point) directions.Response list layout
HasLayout point (list ∷ other ∷ more) layout = ⊥

-- one head comes first, of 1 to MAX_HEAD bytes; a response has no second one
pub record HasAdaptedHead (layout : Layout) : Type 0 where
  pub first : (layout.req_hdr ≡ Some 0) ⊎ (layout.res_hdr ≡ Some 0)
  pub some : 1 ≤ layout.offset
  pub most : layout.offset ≤ MAX_HEAD

-- ---- heads

-- the text is just the head of this response, and keeps a head's limits
abbrev pub IsHead : List ℕ → Response → Type 0
IsHead text value = HasResponse text value (length text)

-- the values of a response's Encapsulated fields
abbrev pub lists_of : Response → List (List ℕ)
lists_of value = values_of (codes "Encapsulated") value.fields

-- a response of this status that encapsulates nothing
pub record IsBareReply (point : Point) (status : ℕ) (text : List ℕ) : Type 0 where
  pub value : Response
  pub head : IsHead text value
  pub status_is : value.status ≡ status
  pub list : HasNothing point (lists_of value)

-- the ICAP head of a 200 with this layout
pub record IsModHead (point : Point) (layout : Layout) (text : List ℕ) : Type 0 where
  pub value : Response
  pub head : IsHead text value
  pub status_is : value.status ≡ 200
  pub list : HasLayout point (lists_of value) layout
  pub adapted : HasAdaptedHead layout

-- the text ends with a whole line that has nothing but one CR at most before its LF
abbrev pub ends_in_empty_line : List ℕ → Bool
ends_in_empty_line text =
    nat_le 1 (length text) && (slice_index text (length text - 1) == 10)
    && ((length text == 1) || (slice_index text (length text - 2) == 10)
    || ((slice_index text (length text - 2) == 13) && ((length text == 2) || (slice_index text (length text - 3) == 10))))

-- a head of a message in the body: up to and with its first empty line
pub record IsEncapsulatedHead (text : List ℕ) : Type 0 where
  pub ended : ends_in_empty_line text ≡ true
  pub first : (k : ℕ) → k < length text → ends_in_empty_line (take k text) ≡ false

-- the heads of a 200: its ICAP head, and then the adapted message's, just as long as the layout says
pub record IsModHeads (point : Point) (layout : Layout) (head text : List ℕ) : Type 0 where
  pub icap : List ℕ
  pub text_is : text ≡ icap ++ head
  pub is : IsModHead point layout icap
  pub head_is : IsEncapsulatedHead head
  pub size : length head ≡ layout.offset

-- ---- responses

-- whether a body follows
abbrev pub has_body : BodyPart → Bool
has_body ReqBody = true
has_body ResBody = true
has_body OptBody = true
has_body NullBody = false

-- what a 200 has after its heads
abbrev pub payload_if : Bool → Payload
payload_if true = payloads.Body
payload_if false = payloads.NullBody

-- what follows the heads: a chunked body, of which `ieof` says nothing, or no body
abbrev pub IsBody : Bool → List ℕ → List ℕ → Type 0
IsBody true text body = (ieof : Bool) × IsChunked text body ieof
IsBody false text body = (text ≡ []) × (body ≡ [])

-- a 100, or nothing
abbrev pub IsContinueOrNothing : Point → Bool → List ℕ → Type 0
IsContinueOrNothing point true text = IsBareReply point 100 text
IsContinueOrNothing point false text = text ≡ []

-- a final response: a 204, or a 200 with this layout, this head and this body
pub data Final : Type 0 where
  unchanged : Final
  changed : Layout → List ℕ → List ℕ → Final

-- a whole 200
pub record IsMod (point : Point) (layout : Layout) (head body text : List ℕ) : Type 0 where
  pub heads : List ℕ
  pub rest : List ℕ
  pub text_is : text ≡ heads ++ rest
  pub heads_are : IsModHeads point layout head heads
  pub body_is : IsBody (has_body layout.body) rest body

-- the text is that final response, whole
abbrev pub IsFinal : Point → Final → List ℕ → Type 0
IsFinal point unchanged text = IsBareReply point 204 text
IsFinal point (changed layout head body) text = IsMod point layout head body text

-- all that a service answers to one request: with a 100 first or without, and then this
pub record IsAnswer (point : Point) (continued : Bool) (final : Final) (text : List ℕ) : Type 0 where
  pub before : List ℕ
  pub last : List ℕ
  pub text_is : text ≡ before ++ last
  pub interim : IsContinueOrNothing point continued before
  pub final_is : IsFinal point final last
