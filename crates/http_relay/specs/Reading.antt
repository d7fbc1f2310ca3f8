-- A source's side over its wire.
use Rattle.std.specs.Prelude.{◌≡◌, ◌≢◌, ℕ, ◌+◌, ◌<◌, ◌≤◌, ◌⊎◌, ◌||◌, Bool, true, false, List, [], ◌++◌, length, take, Option, Some}
use Rattle.std.specs.Prelude.{None as Nothing, Result, Ok, Err, IfSome}
use Rattle.http_side.specs.Heads.{RequestParts, ResponseParts, IsRequestText}
use Rattle.http_side.specs.Requests.{IsRead}
use Rattle.http_side.specs.Responses.{IsResponseRead}
use Rattle.http_side.specs.Framings.{request_framing, response_framing}
use Rattle.http_side.specs.Body.{is_over}
use Rattle.http_side.specs.declared.body.Framing.{Framing}
use Rattle.http_side.specs.declared.body.Framing.TheVariants.{None}
use Rattle.trace_core.specs.declared.history.Event.{Event}
use Rattle.trace_core.specs.declared.history.Seen.{Seen}
use Rattle.wire_kit.specs.Past.{Past, ReadsAtMostOnce}
use Rattle.trace_core.specs.Turns.{after_all, MayAllFollow, AllAre, in_sum, is_of_source}
use Rattle.http_relay.specs.Source.{Agrees, BodyRead, IsCutShort, MustWait, Refuses}
use Rattle.http_relay.specs.Message.{length_of}
use Rattle.wire_kit.specs.declared.wire.Got.{Got}
use Rattle.wire_kit.specs.declared.wire.Got.TheVariants as got
use Rattle.adapt_sides.specs.Turns.{SaysWaiting, events_of, waits_of}
use Rattle.adapt_sides.specs.declared.fault.RelayFault.{RelayFault}
use Rattle.adapt_sides.specs.declared.fault.RelayFault.TheVariants.{Closed, Device, NoMemory}
use Rattle.http_relay.specs.declared.side.SourceSide.{SourceSide}
use Rattle.http_relay.specs.declared.side.head.Asks.{Asks}
use Rattle.http_relay.specs.declared.side.head.Asks.TheVariants as asks
use Rattle.http_relay.specs.declared.side.head.SourceHead.{SourceHead}
use Rattle.http_relay.specs.declared.side.head.SourceHead.TheVariants as heads
use Rattle.http_relay.specs.declared.side.head.HeadProgress.{HeadProgress}
use Rattle.http_relay.specs.declared.side.head.HeadProgress.TheVariants as progress
use Rattle.http_relay.specs.declared.side.head.TheConstants.{MAX_INTERIMS}
use Rattle.http_relay.specs.Judging.{IsInterim, IsLooking, HasNoHead, Looks, interims_in}
use Rattle.adapt_sides.specs.declared.turn.Turn.{Turn}

-- a status that isn't an interim response's
abbrev pub IsFinal : ResponseParts → Type 0
IsFinal r = (r.status < 100) ⊎ (199 < r.status)

-- the text is a head of these parts, to its last byte; a response's is final
abbrev pub IsHeadText : Asks → SourceHead → List ℕ → Type 0
IsHeadText asks.Request (heads.Request r) text = IsRead false text r (length text)
IsHeadText (asks.Response to_head) (heads.Response r) text = IsResponseRead to_head text r (length text) × IsFinal r
IsHeadText _ _ text = ⊥

-- this many interim responses in a row
pub data AreInterims (to_head : Bool) : ℕ → List ℕ → Type 0 where
  nothing : AreInterims to_head 0 []
  further : (n : ℕ) (before text : List ℕ) (r : ResponseParts) → AreInterims to_head n before → IsResponseRead to_head text r (length text)
      → IsInterim r → AreInterims to_head (n + 1) (before ++ text)

-- they may come before a response, if they aren't too many; before a request there are none
abbrev pub IsBefore : Asks → ℕ → List ℕ → Type 0
IsBefore asks.Request n text = (n ≡ 0) × (text ≡ [])
IsBefore (asks.Response to_head) n text = (n ≤ MAX_INTERIMS) × AreInterims to_head n text

-- the request's head, and the response's
abbrev pub request_of : SourceHead → Option RequestParts
request_of (heads.Request r) = Some r
request_of _ = Nothing

abbrev pub response_of : SourceHead → Option ResponseParts
response_of (heads.Response r) = Some r
response_of _ = Nothing

-- these bytes are a text that is just the head of this request, and then those that were left over
abbrev pub ComesAgain : SourceHead → (left bytes : List ℕ) → Type 0
ComesAgain heads.Unread left bytes = ⊥
ComesAgain (heads.Request r) left bytes = (text : List ℕ) × IsRequestText text r × (bytes ≡ text ++ left)
ComesAgain (heads.Response r) left bytes = ⊥

-- how the body after the head is framed
abbrev pub framing_of : SourceHead → Framing
framing_of heads.Unread = None
framing_of (heads.Request r) = request_framing r
framing_of (heads.Response r) = response_framing r

-- these bytes of the body came; the bytes read since the message began are interim responses, its head, what was framed of
-- its body, and the raw ones; `closed` says whether the wire has ended since
pub record SideRead (x : Seen) (body read : List ℕ) (closed : Bool) (s : SourceSide) : Type 0 where
  pub before : List ℕ
  pub head_text : List ℕ
  pub framed : List ℕ
  pub text_is : read ≡ (before ++ head_text) ++ (framed ++ s.raw.items)
  pub interims : (n : ℕ) × IsBefore s.asks n before
  pub head : IsHeadText s.asks s.head head_text
  pub way : s.body.framing ≡ framing_of s.head
  pub body_read : BodyRead x body framed closed s.body

-- the bytes read are interim responses, which it counts, and the raw ones: no head was taken yet
pub record AtHead (read : List ℕ) (s : SourceSide) : Type 0 where
  pub before : List ℕ
  pub text_is : read ≡ before ++ s.raw.items
  pub interims : IsBefore s.asks s.interims before
  pub unread : s.head ≡ heads.Unread

-- these events report what further bytes of the wire do, with these of the body, and the wire's end, if it has ended now
pub record SideReads (old new : SourceSide) (events : List Event) (delta part : List ℕ) (ended : Bool) : Type 0 where
  pub only : AllAre is_of_source events
  pub legal : (x : Seen) → Agrees x old.body → x.closed ≡ false → MayAllFollow x events × Agrees (after_all x events) new.body
  pub reads : (x : Seen) (body read : List ℕ) (closed : Bool) → SideRead x body read closed old
      → SideRead (after_all x events) (body ++ part) (read ++ delta) (ended || closed) new

-- nothing is to be read: the end was reported, or there is no room
abbrev pub Rests : ℕ → SourceSide → Type 0
Rests room s = (s.body.ended ≡ true) ⊎ (room ≡ 0)

-- with this much room, none of the bytes that are kept can be framed
abbrev pub HasFramed : ℕ → SourceSide → Type 0
HasFramed room s = MustWait s.body s.raw.items room

-- ---- a turn of a side without a fault

-- the fault is the wire's, which closed within the body or failed, or want of memory, or that of the raw bytes
abbrev pub IsCause : RelayFault → SourceSide → Type 0
IsCause fault s = ((fault ≡ Closed) × IsCutShort s.body) ⊎ ((fault ≡ Device) ⊎ ((fault ≡ NoMemory) ⊎ Refuses fault s.body s.raw.items))

-- the framing gives the body's end, and it was read
abbrev pub IsOver : SourceSide → Type 0
IsOver s = is_over s.body.reader ≡ true

-- A read is due: the body goes on, there is room, and all bytes that were kept are framed.
pub record IsReadDue (room : ℕ) (s : SourceSide) : Type 0 where
  pub going_on : s.body.ended ≡ false
  pub not_over : is_over s.body.reader ≡ false
  pub some_room : 0 < room
  pub none_kept : s.raw.items ≡ []

-- the wire is read only if that is due once the bytes that are kept were framed, and no event came of them
abbrev pub ReadsWhereDue : ℕ → SourceSide → Option Got → Type 0
ReadsWhereDue room old Nothing = Unit {0}
ReadsWhereDue room old (Some answer) = (framed : SourceSide) × SideReads old framed [] [] [] false × IsReadDue room framed

-- What a turn makes of its wire's answer. It waits if the wire says so, or, if it didn't read, if nothing is to be read. It
-- answers Closed only if the wire ended, and Device just if it failed.
abbrev pub FitsGot : ℕ → SourceSide → Option Got → Result Turn RelayFault → Type 0
FitsGot room new Nothing (Ok turn) = turn.waiting ≡ true → Rests room new
FitsGot room new Nothing (Err fault) = (fault ≢ Closed) × (fault ≢ Device)
FitsGot room new (Some (got.Bytes n)) (Ok turn) = turn.waiting ≡ false
FitsGot room new (Some (got.Bytes n)) (Err fault) = (fault ≢ Closed) × (fault ≢ Device)
FitsGot room new (Some got.Ended) (Ok turn) = turn.waiting ≡ false
FitsGot room new (Some got.Ended) (Err fault) = fault ≢ Device
FitsGot room new (Some got.Wait) (Ok turn) = turn.waiting ≡ true
FitsGot room new (Some got.Wait) (Err fault) = ⊥
FitsGot room new (Some got.Fault) result = result ≡ Err Device

-- the wire said that it has ended
abbrev pub says_ended : Option Got → Bool
says_ended (Some got.Ended) = true
says_ended _ = false

-- A turn of a side without a fault makes one read at most. It reports the body's end only if the framing gives it, or the wire
-- has ended in this turn; an end that the framing gives isn't withheld.
pub record ReadTurn (room : ℕ) (old new : SourceSide) (before after : Past → Type 0) (out : List ℕ) (result : Result Turn RelayFault) : Type
    0 where
  pub delta : List ℕ
  pub answer : Option Got
  pub wire : ReadsAtMostOnce before after delta answer
  pub due : ReadsWhereDue room old answer
  pub fits : FitsGot room new answer result
  pub count : in_sum (events_of result) ≤ room
  pub reads : SideReads old new (events_of result) delta (take (in_sum (events_of result)) out) (says_ended answer)
  pub ends : old.body.ended ≡ false → new.body.ended ≡ true → IsOver new ⊎ (says_ended answer ≡ true)
  pub told : (turn : Turn) → result ≡ Ok turn → IsOver new → new.body.ended ≡ true
  pub waiting : SaysWaiting (events_of result) delta result
  pub waits : waits_of result ≡ true → MustWait new.body new.raw.items room
  pub cause : (fault : RelayFault) → result ≡ Err fault → IsCause fault new

-- ---- the head

-- the message begins: of its body nothing was read, and its numbers are those of a history without In and End
abbrev pub Begins : List ℕ → SourceSide → Type 0
Begins read s = (x : Seen) → x.received ≡ 0 → x.ended ≡ false
    → SideRead x [] read false s × (IfSome x.plan.len (λ len. length_of s.body.framing ≡ Some len) → Agrees x s.body)

-- what judging the raw bytes gives: the message begins, or its head is still to come
abbrev pub JudgesHeadTo : Result HeadProgress RelayFault → List ℕ → SourceSide → Type 0
JudgesHeadTo (Ok progress.Taken) read s = Begins read s
JudgesHeadTo (Ok progress.More) read s = AtHead read s
JudgesHeadTo (Ok progress.Interim) read s = AtHead read s
JudgesHeadTo (Err fault) read s = AtHead read s

-- the wire is read only if no head is among the bytes that are kept
abbrev pub ReadsForHead : SourceSide → Option Got → Type 0
ReadsForHead old Nothing = Unit {0}
ReadsForHead old (Some answer) = (judged : SourceSide) × ((read : List ℕ) → AtHead read old → AtHead read judged)
    × (IsLooking old → HasNoHead judged)

-- What a turn at the head makes of its wire's answer. It says that more is to come after bytes, or if none are there now; it
-- answers Closed and Device just if the wire ended or failed.
abbrev pub FitsHead : Option Got → Result HeadProgress RelayFault → Type 0
FitsHead Nothing (Ok came) = came ≢ progress.More
FitsHead Nothing (Err fault) = (fault ≢ Closed) × (fault ≢ Device)
FitsHead (Some (got.Bytes n)) (Ok came) = Unit {0}
FitsHead (Some (got.Bytes n)) (Err fault) = (fault ≢ Closed) × (fault ≢ Device)
FitsHead (Some got.Ended) result = result ≡ Err Closed
FitsHead (Some got.Wait) result = result ≡ Ok progress.More
FitsHead (Some got.Fault) result = result ≡ Err Device

-- A turn at the head, in which the wire gave these bytes. It makes one read at most, and drops one interim response at most.
pub record HeadTurn (old new : SourceSide) (before after : Past → Type 0) (result : Result HeadProgress RelayFault) : Type 0 where
  pub delta : List ℕ
  pub answer : Option Got
  pub wire : ReadsAtMostOnce before after delta answer
  pub due : ReadsForHead old answer
  pub fits : FitsHead answer result
  pub count : new.interims ≡ old.interims + interims_in result
  pub heads : (read : List ℕ) → AtHead read old → JudgesHeadTo result (read ++ delta) new
  pub looks : IsLooking old → Looks result new

-- only room for raw bytes was given back
pub record GivesBack (old new : SourceSide) : Type 0 where
  pub asks : new.asks ≡ old.asks
  pub head : new.head ≡ old.head
  pub body : new.body ≡ old.body
  pub raw : new.raw.items ≡ old.raw.items
  pub judged : new.judged ≡ old.judged
  pub interims : new.interims ≡ old.interims
  pub fault : new.fault ≡ old.fault
  pub head_fault : new.head_fault ≡ old.head_fault
  pub empty : new.raw.items ≡ [] → new.raw.spare ≡ 0
