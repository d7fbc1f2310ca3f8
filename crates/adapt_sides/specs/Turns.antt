-- What one turn of each side does, as a relation between histories and whole texts.
use Rattle.std.specs.Prelude.{◌≡◌, ℕ, ◌<◌, ◌≤◌, ◌⊎◌, ◌||◌, Bool, true, false, List, [], ◌++◌, length, take, Option, Some, None, Result, Ok}
use Rattle.std.specs.Prelude.{Err}
use Rattle.trace_core.specs.declared.history.Event.{Event}
use Rattle.trace_core.specs.declared.history.Seen.{Seen}
use Rattle.trace_core.specs.Turns.{after_all, MayAllFollow, AllAre, in_sum, ad_sum, is_of_source, is_of_sending, is_of_replies, is_of_hop}
use Rattle.span_tape.specs.Tape.{Tape}
use Rattle.wire_kit.specs.Past.{Past, IsLater}
use Rattle.adapt_sides.specs.Tapes.{Follows}
use Rattle.adapt_sides.specs.declared.turn.Turn.{Turn}
use Rattle.adapt_sides.specs.declared.fault.ClientFault.{ClientFault}
use Rattle.adapt_sides.specs.declared.fault.ClientFault.TheVariants as client
use Rattle.adapt_sides.specs.declared.fault.RelayFault.{RelayFault}
use Rattle.adapt_sides.specs.declared.fault.RelayFault.TheVariants as relay

-- the events that a turn reports; a refused one reports none
abbrev pub events_of : {F : Type 0} → Result Turn F → List Event
events_of (Ok turn) = turn.events.items
events_of (Err fault) = []

-- whether it says that it waits
abbrev pub waits_of : {F : Type 0} → Result Turn F → Bool
waits_of (Ok turn) = turn.waiting
waits_of (Err fault) = false

-- Of the two faults that come of a wire's answer, the one comes only if the wire failed in this call, and the other only if it
-- ended in this call: on a wire with the past p before and q after.
abbrev pub OfWire : {F : Type 0} → (device closed fault : F) → Past → Past → Type 0
OfWire device closed fault p q = (fault ≡ device → p.faults < q.faults) × (fault ≡ closed → p.ends < q.ends)

abbrev pub OfRelayWire : RelayFault → Past → Past → Type 0
OfRelayWire fault p q = OfWire relay.Device relay.Closed fault p q

abbrev pub OfClientWire : ClientFault → Past → Past → Type 0
OfClientWire fault p q = OfWire client.Device client.Closed fault p q

-- Why a turn moved nothing, or failed: on a wire with the past p before and q after. `of_wire` says what a first fault shows of
-- the wire, and `rests` that nothing was due.
pub record HasReason {F : Type 0} (of_wire : F → Past → Past → Type 0) (p q : Past) (old_fault : Option F) (rests : Type 0)
    (waits : Past → ℕ) (result : Result Turn F) : Type 0 where
  pub failed : (fault : F) → result ≡ Err fault → old_fault ≡ None → of_wire fault p q
  pub waiting : waits_of result ≡ true → rests ⊎ (waits p < waits q)

-- a first fault has its reason
abbrev pub IsExplained : {F : Type 0} → (old_fault : Option F) → (reason : F → Type 0) → Result Turn F → Type 0
IsExplained {F} old_fault reason result = old_fault ≡ None → (fault : F) → result ≡ Err fault → reason fault

-- a turn that waits did nothing, and one that did nothing waits
pub record SaysWaiting {F : Type 0} (events : List Event) (delta : List ℕ) (result : Result Turn F) : Type 0 where
  pub idle : waits_of result ≡ true → (events ≡ []) × (delta ≡ [])
  pub waits : (turn : Turn) → result ≡ Ok turn → events ≡ [] → delta ≡ [] → turn.waiting ≡ true

-- a fault stays with the side, and a turn that goes well leaves none
pub record Remembers {F : Type 0} (old new : Option F) (result : Result Turn F) : Type 0 where
  pub sound : (turn : Turn) → result ≡ Ok turn → new ≡ None
  pub again : (fault : F) → old ≡ Some fault → result ≡ Err fault
  pub stays : (fault : F) → result ≡ Err fault → new ≡ Some fault

-- what a wire gave: its bytes, and whether it said that it has ended
pub record Given : Type 0 where
  pub bytes : List ℕ
  pub ended : Bool

-- and what it gave after that
abbrev pub given_then : Given → Given → Given
given_then a b = record { bytes = a.bytes ++ b.bytes; ended = b.ended || a.ended }

-- A read of the source's wire, which gave this: In and End. `all_framed` says that none of the bytes that are kept can be framed, and
-- `over` that the framing gives the body's end. End comes only if the body is over so, or the wire has ended in this call; and an
-- end that the framing gives isn't withheld.
pub record ReadsBody (old new : Seen → List ℕ → Given → Type 0) (agrees_old agrees_new : Seen → Type 0)
    (old_fault new_fault : Option RelayFault) (rests all_framed over : Type 0) (before after : Past → Type 0) (out : List ℕ)
    (result : Result Turn RelayFault) : Type 0 where
  pub delta : Given
  pub wire : (p : Past) → before p → (q : Past) × after q × IsLater p delta.bytes [] q
      × HasReason OfRelayWire p q old_fault rests (λ past. past.read_waits) result × (delta.ended ≡ true → p.ends < q.ends)
  pub only : AllAre is_of_source (events_of result)
  pub count : in_sum (events_of result) ≤ length out
  pub framed : waits_of result ≡ true → all_framed
  pub legal : (x : Seen) → agrees_old x → x.closed ≡ false → MayAllFollow x (events_of result) × agrees_new (after_all x (events_of result))
  pub ends : (x : Seen) → agrees_old x → x.closed ≡ false → x.ended ≡ false → (after_all x (events_of result)).ended ≡ true
      → over ⊎ (delta.ended ≡ true)
  pub told : (turn : Turn) → result ≡ Ok turn → over → (x : Seen) → agrees_new x → x.ended ≡ true
  pub goes_on : (x : Seen) (body : List ℕ) (read : Given) → old x body read → x.closed ≡ false
      → new (after_all x (events_of result)) (body ++ take (in_sum (events_of result)) out) (given_then read delta)
  pub waiting : SaysWaiting (events_of result) delta.bytes result
  pub fault : Remembers old_fault new_fault result

-- A write to the service's wire, which took these bytes: Svc and Stop. Of a request with these heads.
pub record Sends (x : Seen) (tape : Tape) (old new : List ℕ → Seen → List ℕ → List ℕ → Type 0) (old_fault new_fault : Option ClientFault)
    (rests : Type 0) (before after : Past → Type 0) (result : Result Turn ClientFault) : Type 0 where
  pub delta : List ℕ
  pub wire : (p : Past) → before p → (q : Past) × after q × IsLater p [] delta q
      × HasReason OfClientWire p q old_fault rests (λ past. past.write_waits) result
  pub only : AllAre is_of_sending (events_of result)
  pub legal : MayAllFollow x (events_of result)
  pub goes_on : (heads came taken : List ℕ) → Follows tape came → old heads x came taken
      → new heads (after_all x (events_of result)) came (taken ++ delta)
  pub waiting : SaysWaiting (events_of result) delta result
  pub fault : Remembers old_fault new_fault result

-- A read of the service's wire, which gave these bytes: Heard, the replies, Ad and AdEnd.
pub record Hears (x : Seen) (old new : Seen → List ℕ → List ℕ → Type 0) (old_fault new_fault : Option ClientFault)
    (rests all_framed : Type 0) (before after : Past → Type 0) (out : List ℕ) (result : Result Turn ClientFault) : Type 0 where
  pub delta : List ℕ
  pub wire : (p : Past) → before p → (q : Past) × after q × IsLater p delta [] q
      × HasReason OfClientWire p q old_fault rests (λ past. past.read_waits) result
  pub only : AllAre is_of_replies (events_of result)
  pub count : ad_sum (events_of result) ≤ length out
  pub framed : waits_of result ≡ true → all_framed
  pub legal : MayAllFollow x (events_of result)
  pub goes_on : (adapted read : List ℕ) → old x adapted read
      → new (after_all x (events_of result)) (adapted ++ take (ad_sum (events_of result)) out) (read ++ delta)
  pub waiting : SaysWaiting (events_of result) delta result
  pub fault : Remembers old_fault new_fault result

-- what a next hop's side writes: nothing yet, one message, or the proxy's own refusal
pub data Gift : Type 0 where
  nothing : Gift
  message : Gift
  refusal : (status : ℕ) → Gift

-- why a next hop's side fails first: the wire failed, or the chosen body breaks the length that the message's head said
abbrev pub FailsGiving : (breaks : Type 0) → RelayFault → Type 0
FailsGiving breaks fault = (fault ≡ relay.Device) ⊎ ((fault ≡ relay.Length) × breaks)

-- the fault that outlasts a refusal in the message's place: the wire has failed
abbrev pub wire_fault : Option RelayFault → Option RelayFault
wire_fault (Some relay.Device) = Some relay.Device
wire_fault _ = None

-- A write to the next hop's wire, which took these bytes: Usr and Done. Done stands only once the whole message is out.
-- Of a message with this head; or aside, of a refusal.
pub record Gives (x : Seen) (tape : Tape) (old new : Seen → List ℕ → List ℕ → List ℕ → Type 0) (old_aside new_aside : List ℕ → Type 0)
    (whole : List ℕ → List ℕ → List ℕ → Type 0) (old_fault new_fault : Option RelayFault) (rests : Type 0) (before after : Past → Type 0)
    (result : Result Turn RelayFault) : Type 0 where
  pub delta : List ℕ
  pub wire : (p : Past) → before p → (q : Past) × after q × IsLater p [] delta q
      × HasReason OfRelayWire p q old_fault rests (λ past. past.write_waits) result
  pub only : AllAre is_of_hop (events_of result)
  pub legal : MayAllFollow x (events_of result)
  pub goes_on : x.closed ≡ false → (head body taken : List ℕ) → Follows tape body → old x head body taken
      → new (after_all x (events_of result)) head body (taken ++ delta)
  pub done : x.closed ≡ false → (after_all x (events_of result)).closed ≡ true → (head body taken : List ℕ) → Follows tape body
      → old x head body taken → whole head body (taken ++ delta)
  pub aside : (taken : List ℕ) → old_aside taken → new_aside (taken ++ delta)
  pub waiting : SaysWaiting (events_of result) delta result
  pub fault : Remembers old_fault new_fault result
