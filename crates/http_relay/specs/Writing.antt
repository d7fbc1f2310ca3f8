-- What a write turn of the next hop does.
use Rattle.std.specs.Prelude.{◌≡◌, ℕ, ◌-◌, ◌⊎◌, ◌↔◌, Bool, true, false, List, [], ◌++◌, take, drop, Option, Some, None, Result, Ok, Err}
use Rattle.trace_core.specs.declared.history.Event.{Event}
use Rattle.trace_core.specs.declared.history.Seen.{Seen}
use Rattle.span_tape.specs.Tape.{Tape}
use Rattle.wire_kit.specs.Past.{Past, Offers, delta_of}
use Rattle.wire_kit.specs.declared.wire.Put.{Put}
use Rattle.wire_kit.specs.declared.wire.Put.TheVariants as put
use Rattle.chunk_writer.specs.declared.next.Next.{Next}
use Rattle.chunk_writer.specs.Writer.{waiting, offered}
use Rattle.adapt_sides.specs.declared.turn.Turn.{Turn}
use Rattle.adapt_sides.specs.declared.fault.RelayFault.{RelayFault}
use Rattle.adapt_sides.specs.declared.fault.RelayFault.TheVariants.{Device, Length}
use Rattle.http_relay.specs.declared.hop.HopStage.TheVariants as at
use Rattle.trace_core.specs.Turns.{after_all, MayAllFollow}
use Rattle.adapt_sides.specs.Tapes.{Follows, chosen_delivered}
use Rattle.adapt_sides.specs.Turns.{events_of}
use Rattle.http_relay.specs.Giving.{Hop, HasGiven, IsAside, NothingDue, BreaksLength, Decides, is_message, hop_events, gift_of}

-- this many bytes of the body, the next ones on its tape, are among those that the wire took
pub record TookBody (x : Seen) (tape : Tape) (count : ℕ) (delta : List ℕ) : Type 0 where
  pub before : List ℕ
  pub behind : List ℕ
  pub bytes_are : delta ≡ before ++ (take count (drop (chosen_delivered x - tape.base) tape.bytes) ++ behind)

-- The side goes on by these events while its wire takes these bytes; Done stands only once the message's whole text is out.
pub record GoesOn (x : Seen) (tape : Tape) (old new : Hop) (events : List Event) (delta : List ℕ) : Type 0 where
  pub legal : MayAllFollow x events
  pub given : (head body taken : List ℕ) → Follows tape body → HasGiven x head body taken old
      → HasGiven (after_all x events) head body (taken ++ delta) new
  pub aside : (taken : List ℕ) → IsAside taken old → IsAside (taken ++ delta) new
  pub sent : ℕ
  pub done : Bool
  pub events_are : events ≡ hop_events sent done
  pub counted : TookBody x tape sent delta
  pub whole : done ≡ true → (new.stage ≡ at.Whole) × (waiting new.writer ≡ [])
  pub framing : new.framing ≡ old.framing
  pub gift : gift_of new.stage ≡ gift_of old.stage

-- A turn that answers events, by what its wire answered. It waits only if the wire said so in this call, or if nothing was
-- due; else the wire took bytes, or an event stands.
pub record FitsAnswer (x : Seen) (new : Hop) (answer : Option Put) (turn : Turn) : Type 0 where
  pub no_fault : answer ≡ Some put.Fault → ⊥
  pub wait : answer ≡ Some put.Wait → turn.events.items ≡ []
  pub idle : answer ≡ None → turn.events.items ≡ [] → NothingDue x new
  pub waiting_is : turn.waiting ≡ true → (turn.events.items ≡ []) × ((answer ≡ Some put.Wait) ⊎ (answer ≡ None))
  pub moved : turn.waiting ≡ false → turn.events.items ≡ [] → answer ≡ None → ⊥
  pub woke : turn.waiting ≡ false → answer ≡ Some put.Wait → ⊥

-- A first fault is Device, exactly if the wire failed in this call, or Length, if the body breaks its length and nothing was
-- offered.
abbrev pub FitsOffer : Seen → Hop → Hop → Option Put → Result Turn RelayFault → Type 0
FitsOffer x old new answer (Ok turn) = FitsAnswer x new answer turn
FitsOffer x old new answer (Err fault) =
    ((fault ≡ Device) × (answer ≡ Some put.Fault))
    ⊎ ((fault ≡ Length) × (answer ≡ None) × (is_message old.stage ≡ true) × BreaksLength x old.framing)

-- The text that is offered is all that is due: what waits and, unless a long head goes out alone, what comes next after it; the
-- wire is asked only if there is such a text.
pub record OffersAll (x : Seen) (tape : Tape) (old : Hop) (text : List ℕ) (answer : Option Put) : Type 0 where
  pub next : Next
  pub decides : Decides old.turn x old.writer old.framing old.stage next
  pub all : text ≡ offered old.writer tape next
  pub asks : answer ≡ None ↔ text ≡ []

-- A turn makes one write at most, and offers all that is due. After a fault, and if the body breaks its length, it makes none.
pub record WriteTurn (x : Seen) (tape : Tape) (old new : Hop) (before after : Past → Type 0) (result : Result Turn RelayFault) : Type 0
  where
    pub text : List ℕ
    pub answer : Option Put
    pub wire : Offers before after text answer
    pub goes_on : GoesOn x tape old new (events_of result) (delta_of text answer)
    pub offers : old.fault ≡ None → (result ≡ Err Length) ⊎ OffersAll x tape old text answer
    pub fits : old.fault ≡ None → FitsOffer x old new answer result
