-- What a write turn of the service's side does.
use Rattle.std.specs.Prelude.{◌&&◌, ◌||◌, not, option_map, is_some, is_none, ◌≡◌, ℕ, ◌⊎◌, ◌↔◌, ◌==◌, length, Bool, true, false, List, []}
use Rattle.std.specs.Prelude.{◌++◌, Option, Some, None, Result, Ok, Err}
use Rattle.trace_core.specs.declared.history.Event.{Event}
use Rattle.trace_core.specs.declared.history.Event.TheVariants.{Retry}
use Rattle.trace_core.specs.declared.history.Seen.{Seen}
use Rattle.trace_core.specs.History.{is_preview, is_whole}
use Rattle.encapsulated.specs.declared.offsets.Layout.{Layout}
use Rattle.span_tape.specs.Tape.{Tape}
use Rattle.wire_kit.specs.Past.{Past, Offers, delta_of}
pub use Rattle.wire_kit.specs.Past.{IsLater}
pub use Rattle.adapt_sides.specs.Turns.{events_of, waits_of, SaysWaiting, Remembers, Sends, Hears}
use Rattle.wire_kit.specs.declared.wire.Put.{Put}
use Rattle.wire_kit.specs.declared.wire.Put.TheVariants as put
use Rattle.chunk_writer.specs.declared.next.Next.{Next}
use Rattle.chunk_writer.specs.Writer.{Writer, waiting, offered}
use Rattle.icap_client.specs.Sending.{HasSent, Came, NothingDue, Decides}
use Rattle.icap_client.specs.Events.{MayCome, after_all, MayAllFollow, AllAre, is_of_sending}
use Rattle.icap_client.specs.Reading.{ReadSide, SideHeard, NothingToRead, IsCause}
use Rattle.icap_client.specs.HeadFront.{HasToWait}
use Rattle.icap_client.specs.Laws.{IsWhole}
use Rattle.icap_client.specs.declared.stage.Stage.{Stage}
use Rattle.icap_client.specs.declared.stage.Stage.TheVariants.{Replies, Head, Body, Over}
use Rattle.adapt_sides.specs.declared.turn.Turn.{Turn}
use Rattle.adapt_sides.specs.declared.fault.ClientFault.{ClientFault}
use Rattle.adapt_sides.specs.declared.fault.ClientFault.TheVariants.{Device}

-- the side goes on by these events while its wire takes these bytes
pub record GoesOn (x : Seen) (tape : Tape) (old new : Writer) (events : List Event) (delta : List ℕ) : Type 0 where
  pub legal : MayAllFollow x events
  pub only : AllAre is_of_sending events
  pub sent : (head came taken : List ℕ) → Came x tape came → HasSent head x came taken old
      → HasSent head (after_all x events) came (taken ++ delta) new

-- the service's side: what is written, what is read with the fault that stays, two marks: the Stop was fixed after which
-- nothing goes to the service; a preview was answered, with no 100 before it; and how many bytes of the body one turn writes at most
pub record Service : Type 0 where
  pub writer : Writer
  pub replies : ReadSide
  pub last_stop : Bool
  pub answered : Bool
  pub turn : ℕ

-- a final response answered a preview, with no 100 before it (RFC 3507, section 4.5)
abbrev pub is_answered : Seen → Bool
is_answered x = is_preview x.plan.kind && (not x.continued && (x.no_mod || x.modified))

-- a Stop after this many bytes of the body is the one after which nothing goes to the service
abbrev pub is_last_at : Seen → ℕ → Bool
is_last_at x place = is_whole x.plan.kind || (is_preview x.plan.kind && not x.stopped && x.ended && (place == x.received)) ||
    (is_preview x.plan.kind && x.continued)

-- all that was fixed is out
abbrev pub is_flushed : Writer → Bool
is_flushed w = length (waiting w) == 0

-- A turn that answers events, by what its wire answered. It waits only if the wire said so in this call, or if nothing was
-- due; else the wire took bytes, or an event stands.
pub record FitsAnswer (x : Seen) (w : Writer) (answer : Option Put) (turn : Turn) : Type 0 where
  pub no_fault : answer ≡ Some put.Fault → ⊥
  pub wait : answer ≡ Some put.Wait → turn.events.items ≡ []
  pub idle : answer ≡ None → turn.events.items ≡ [] → NothingDue x w
  pub waiting : turn.waiting ≡ true → (turn.events.items ≡ []) × ((answer ≡ Some put.Wait) ⊎ (answer ≡ None))
  pub moved : turn.waiting ≡ false → turn.events.items ≡ [] → answer ≡ None → ⊥
  pub woke : turn.waiting ≡ false → answer ≡ Some put.Wait → ⊥

-- A first fault is Device, and comes exactly if the wire failed in this call.
abbrev pub FitsOffer : Seen → Writer → Option Put → Result Turn ClientFault → Type 0
FitsOffer x w answer (Ok turn) = FitsAnswer x w answer turn
FitsOffer x w answer (Err fault) = (fault ≡ Device) × (answer ≡ Some put.Fault)

-- A turn of a side without a fault, of at most this many body bytes: its wire took a prefix of all that is due, which is what
-- waits and, unless a long head goes
-- out alone, what comes next after it; the wire is asked only if there is such a text.
pub record WriteTurn (most : ℕ) (x : Seen) (tape : Tape) (old new : Writer) (before after : Past → Type 0)
    (result : Result Turn ClientFault) : Type 0 where
  pub next : Next
  pub answer : Option Put
  pub decides : Decides most x old next
  pub wire : Offers before after (offered old tape next) answer
  pub asks : answer ≡ None ↔ offered old tape next ≡ []
  pub goes_on : GoesOn x tape old new (events_of result) (delta_of (offered old tape next) answer)
  pub fits : FitsOffer x new answer result

-- ---- both halves, as a transaction calls them

-- nothing is to be read: the answer is whole, there is no room, or the preview isn't out
abbrev pub RestsReading : Seen → ℕ → Service → Type 0
RestsReading x room s = NothingToRead x (is_flushed s.writer) room s.replies.reader.stage

-- with this much room, none of the bytes that are kept can be framed
abbrev pub HasFramed : ℕ → Service → Type 0
HasFramed room s = HasToWait s.replies.reader.stage s.replies.raw room

-- why a read answers this fault first
abbrev pub HasCause : ClientFault → Seen → Service → Type 0
HasCause fault x s = IsCause fault x (is_flushed s.writer) s.replies.reader s.replies.raw

-- a layout with a res-hdr
abbrev pub is_response_in : Option Layout → Bool
is_response_in None = false
is_response_in (Some layout) = is_some layout.res_hdr

-- the adapted message's head, once it was read
abbrev pub adapted_head_of : Service → Option (List ℕ)
adapted_head_of s = option_map (λ layout. s.replies.reader.head) s.replies.reader.layout

-- of the message these bytes came and of the request with this head these bytes were taken; all of the head is kept as long as
-- the request may begin anew; and the side's mark is the history's
pub record ServiceSent (head : List ℕ) (x : Seen) (came taken : List ℕ) (s : Service) : Type 0 where
  pub sent : HasSent head x came taken s.writer
  pub kept : MayCome x Retry → s.writer.head ≡ head
  pub last_stop : s.last_stop ≡ x.last_stop

-- these adapted bytes came and these bytes were read, and the side's mark is the history's
pub record ServiceHeard (x : Seen) (adapted read : List ℕ) (s : Service) : Type 0 where
  pub heard : SideHeard x adapted read s.replies
  pub answered : s.answered ≡ is_answered x

-- all of the request is out; or all of a preview, which was answered without a 100
abbrev pub is_whole_request : Service → Bool
is_whole_request s = is_flushed s.writer && (s.last_stop || s.answered)

abbrev pub is_over : Stage → Bool
is_over Replies = false
is_over (Head layout) = false
is_over (Body chunks) = false
is_over Over = true

-- another request may follow on the service's connection: the request is whole, the final response was read to its end and
-- nothing after it, it doesn't say that the connection closes, and no fault stands
abbrev pub is_reusable : Service → Bool
is_reusable s = is_whole_request s && (is_over s.replies.reader.stage &&
    ((length s.replies.raw == 0) && (not s.replies.reader.closes && is_none s.replies.fault)))

-- the adapted message is a response: its head stands as res-hdr
abbrev pub is_response_of : Service → Bool
is_response_of s = is_response_in s.replies.reader.layout

-- the connection carried a whole request, or a preview that was answered, with nothing more due; and just a whole answer,
-- which doesn't say that the connection closes
pub record IsClean (x : Seen) (adapted read : List ℕ) (s : Service) : Type 0 where
  pub out : waiting s.writer ≡ []
  pub request : (x.last_stop || is_answered x) ≡ true
  pub answer : IsWhole x adapted read s.replies.reader
  pub goes_on : s.replies.reader.closes ≡ false
