-- What a turn answers, by what its wire answered.
use Rattle.std.proofs.Common.{◌≡◌, ◌↔◌, ℕ, Bool, true, false, List, [], refl, ap, sym, subst, ◌∙◌, Option, Some, None, Result, inl, inr}
use Rattle.trace_core.specs.declared.history.Seen.{Seen}
use Rattle.trace_core.specs.declared.history.Event.{Event}
use Rattle.trace_core.proofs.Sound.{Sound}
use Rattle.span_tape.specs.Tape.{Tape}
use Rattle.wire_kit.specs.Past.{Past, Offers, delta_of}
use Rattle.wire_kit.specs.declared.wire.Put.{Put}
use Rattle.wire_kit.specs.declared.wire.Put.TheVariants as put
use Rattle.chunk_writer.specs.declared.next.Next.{Next}
use Rattle.chunk_writer.specs.Writer.{Writer, IsIdle, offered}
use Rattle.chunk_writer.specs.Moves.{Moves, IsStill}
use Rattle.adapt_sides.specs.declared.turn.Turn.{Turn}
use Rattle.adapt_sides.specs.declared.fault.ClientFault.{ClientFault}
use Rattle.icap_client.specs.Sending.{KeepsUnsent, Decides, sending_events}
use Rattle.icap_client.specs.Turns.{GoesOn, WriteTurn, FitsOffer, FitsAnswer, events_of}
use Rattle.icap_client.proofs.Turning.{goes_on, nothing_due}

-- a turn whose moves, wire's answer and events fit what it decided is a write turn
pub turned : {most : ℕ} (x : Seen) (tape : Tape) (next : Next) (v w : Writer) (before after : Past → Type 0)
    (result : Result Turn ClientFault) (answer : Option Put) (k : ℕ) (e : Bool)
    → Sound x → KeepsUnsent x tape → Decides most x v next → Offers before after (offered v tape next) answer
    → (answer ≡ None ↔ offered v tape next ≡ []) → Moves tape next v k e (delta_of (offered v tape next) answer) w
    → events_of result ≡ sending_events k e → FitsOffer x w answer result → WriteTurn most x tape v w before after result
turned x tape next v w before after result answer k e s u c o a m h f = record {
  next = next;
  answer = answer;
  decides = c;
  wire = o;
  asks = a;
  goes_on = subst (λ (events : List Event). GoesOn x tape v w events (delta_of (offered v tape next) answer)) (sym h)
      (goes_on x tape next v w k e (delta_of (offered v tape next) answer) s u c m);
  fits = f;
}

-- a turn whose wire took bytes, and that doesn't wait, fits this answer
pub fits_took : (x : Seen) (w : Writer) (answer : Option Put) (n : ℕ) (turn : Turn) → answer ≡ Some (put.Took n)
    → (turn.waiting ≡ true → true ≡ false) → FitsAnswer x w answer turn
fits_took x w answer n turn a t = record {
  no_fault = λ h. cc;
  wait = λ h. cc;
  idle = λ h. cc;
  waiting = λ h. absurd (let no : true ≡ false = t h in cc);
  moved = λ h i none. cc;
  woke = λ h i. cc;
}

-- where the wire answered Wait, no body byte is counted and no end is fixed
still_wait : (answer : Option Put) (k : ℕ) (e : Bool) → answer ≡ Some put.Wait → IsStill answer k e → (k ≡ 0) × (e ≡ false)
still_wait None k e a s = cc
still_wait (Some (put.Took n)) k e a s = cc
still_wait (Some put.Wait) k e a s = s
still_wait (Some put.Fault) k e a s = s

-- where the wire failed, no body byte is counted and no end is fixed
still_fault : (answer : Option Put) (k : ℕ) (e : Bool) → answer ≡ Some put.Fault → IsStill answer k e → (k ≡ 0) × (e ≡ false)
still_fault None k e a s = cc
still_fault (Some (put.Took n)) k e a s = cc
still_fault (Some put.Wait) k e a s = s
still_fault (Some put.Fault) k e a s = s

-- no body byte and no fixed end make no event
none_by : (k : ℕ) (e : Bool) → (k ≡ 0) × (e ≡ false) → [] ≡ sending_events k e
none_by k e s = subst (λ (n : ℕ). [] ≡ sending_events n e) (sym s.0) (subst (λ (b : Bool). [] ≡ sending_events 0 b) (sym s.1) refl)

-- where the wire answered Wait, a turn has no event
pub none_at_wait : (answer : Option Put) (k : ℕ) (e : Bool) → answer ≡ Some put.Wait → IsStill answer k e → [] ≡ sending_events k e
none_at_wait answer k e a s = none_by k e (still_wait answer k e a s)

-- where the wire failed, a turn has no event
pub none_at_fault : (answer : Option Put) (k : ℕ) (e : Bool) → answer ≡ Some put.Fault → IsStill answer k e → [] ≡ sending_events k e
none_at_fault answer k e a s = none_by k e (still_fault answer k e a s)

-- a turn without events, which then waits, fits the wire's Wait
pub fits_wait : (x : Seen) (w : Writer) (answer : Option Put) (turn : Turn) → answer ≡ Some put.Wait → turn.events.items ≡ []
    → (turn.waiting ≡ false → turn.events.items ≡ [] → ⊥) → FitsAnswer x w answer turn
fits_wait x w answer turn a n t = record {
  no_fault = λ h. cc;
  wait = λ h. n;
  idle = λ h. cc;
  waiting = λ h. (n, inl a);
  moved = λ h i none. cc;
  woke = λ h i. t h n;
}

-- a turn that offered nothing, and waits just if it has no event, fits that
pub fits_none : {most : ℕ} (x : Seen) (tape : Tape) (next : Next) (v w : Writer) (answer : Option Put) (k : ℕ) (e : Bool) (d : List ℕ)
    (turn : Turn) → answer ≡ None → Decides most x v next → Moves tape next v k e d w → IsIdle v next k e
    → turn.events.items ≡ sending_events 0 e
    → (turn.waiting ≡ true → turn.events.items ≡ []) → (turn.waiting ≡ false → turn.events.items ≡ [] → ⊥) → FitsAnswer x w answer turn
fits_none x tape next v w answer k e d turn a c m i h t f = record {
  no_fault = λ b. cc;
  wait = λ b. cc;
  idle = λ b n. nothing_due x tape next v w k e d c m i (sym h ∙ n);
  waiting = λ b. (t b, inr a);
  moved = λ b n none. f b n;
  woke = λ b o. cc;
}

-- the events of an idle turn are those of no body byte
pub idle_events : (next : Next) (w : Writer) (k : ℕ) (e : Bool) → IsIdle w next k e → sending_events 0 e ≡ sending_events k e
idle_events next w k e i = ap (λ (n : ℕ). sending_events n e) (sym i.none_sent)
