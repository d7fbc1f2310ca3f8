-- A write turn is what a transaction asks of a next hop.
use Rattle.std.proofs.Common.{◌≡◌, ℕ, ◌<◌, ◌≤◌, inl, inr, arith, Bool, true, false, ◌==◌, List, [], ◌++◌, length, refl, ap, sym, subst, ◌∙◌}
use Rattle.std.proofs.Common.{append-nil, Option, Some, None, IfSome, take, Result, Ok, Err}
use Rattle.std.proofs.lemmas.Bool.Decides.{nat_tests}
use Rattle.std.proofs.lemmas.List.{length-take-le}
use Rattle.trace_core.specs.declared.history.Event.{Event}
use Rattle.trace_core.specs.declared.history.Event.TheVariants.{Usr}
use Rattle.trace_core.specs.declared.history.Seen.{Seen}
use Rattle.trace_core.specs.Turns.{after_all, AllAre, is_of_hop}
use Rattle.trace_core.specs.View.{after}
use Rattle.span_tape.specs.Tape.{Tape}
use Rattle.wire_kit.specs.Past.{Past, FitsPut, IsLater, after_offer, delta_of}
use Rattle.wire_kit.specs.declared.wire.Put.{Put}
use Rattle.wire_kit.specs.declared.wire.Put.TheVariants as put
use Rattle.adapt_sides.specs.Tapes.{KeepsUndelivered, chosen_received}
use Rattle.adapt_sides.specs.Turns.{Gives, HasReason, OfRelayWire, FailsGiving, SaysWaiting, events_of}
use Rattle.adapt_sides.specs.declared.turn.Turn.{Turn}
use Rattle.adapt_sides.specs.declared.fault.RelayFault.{RelayFault}
use Rattle.adapt_sides.specs.declared.fault.RelayFault.TheVariants.{Closed, Device, Length}
use Rattle.http_relay.specs.Message.{IsMessage}
use Rattle.http_side.specs.declared.body.Framing.{Framing}
use Rattle.adapt_sides.specs.Turns.Gift.{message}
use Rattle.http_relay.specs.declared.hop.HopStage.{HopStage}
use Rattle.http_relay.specs.declared.hop.HopStage.TheVariants as at
use Rattle.http_relay.specs.Giving.{Hop, HasGiven, IsAside, NothingDue, BreaksLength, is_message, gift_of, usr_events, hop_events}
use Rattle.http_relay.specs.Writing.{WriteTurn, FitsOffer, FitsAnswer}
use Rattle.http_relay.proofs.Chosen.{done_moves}
use Rattle.http_relay.proofs.Whole.{whole_at}

-- The wire.
is_later : (p : Past) (text : List ℕ) (answer : Option Put) → IsLater p [] (delta_of text answer) (after_offer p text answer)
is_later p text None = record {
  read = sym (append-nil p.read);
  out = sym (append-nil p.taken);
  ends = omega arith;
  read_waits = omega arith;
  write_waits = omega arith;
  faults = omega arith;
}
is_later p text (Some (put.Took n)) = record {
  read = sym (append-nil p.read);
  out = refl;
  ends = omega arith;
  read_waits = omega arith;
  write_waits = omega arith;
  faults = omega arith;
}
is_later p text (Some put.Wait) = record {
  read = sym (append-nil p.read);
  out = sym (append-nil p.taken);
  ends = omega arith;
  read_waits = omega arith;
  write_waits = omega arith;
  faults = omega arith;
}
is_later p text (Some put.Fault) = record {
  read = sym (append-nil p.read);
  out = sym (append-nil p.taken);
  ends = omega arith;
  read_waits = omega arith;
  write_waits = omega arith;
  faults = omega arith;
}

-- an offer that fails adds to the wire's faults
fault_counts : (p : Past) (text : List ℕ) (answer : Option Put) → answer ≡ Some put.Fault → p.faults < (after_offer p text answer).faults
fault_counts p text answer e = subst (λ (a : Option Put). p.faults < (after_offer p text a).faults) (sym e) (omega arith)

-- an offer that waits adds to the wire's waits for writing
wait_counts : (p : Past) (text : List ℕ) (answer : Option Put) → answer ≡ Some put.Wait
    → p.write_waits < (after_offer p text answer).write_waits
wait_counts p text answer e = subst (λ (a : Option Put). p.write_waits < (after_offer p text a).write_waits) (sym e) (omega arith)

-- why it failed, or waits
reason : (x : Seen) (old new : Hop) (p : Past) (text : List ℕ) (answer : Option Put) (result : Result Turn RelayFault)
    → (old.fault ≡ None → FitsOffer x old new answer result)
    → ((fault : RelayFault) → old.fault ≡ Some fault → result ≡ Err fault) → (o : Option RelayFault) → o ≡ old.fault
    → HasReason OfRelayWire p (after_offer p text answer) old.fault (NothingDue x new) (λ past. past.write_waits) result
reason x old new p text answer (Ok turn) f r None e =
    let h : FitsAnswer x new answer turn = f (sym e) in
    record {
      failed = λ h d n. cc;
      waiting = λ w.
          let idle = h.waiting_is w in
          elim idle.1 [ inl a ↦ inr (wait_counts p text answer a) | inr a ↦ inl (h.idle a idle.0) ];
    }
reason x old new p text answer (Ok turn) f r (Some g) e = let odd : Ok turn ≡ Err g = r g (sym e) in cc
reason x old new p text answer (Err fault) f r o e = record {
  failed = λ g d n.
      let is : fault ≡ g = cc in (
        (λ e. elim (f n) [ inl h ↦ fault_counts p text answer h.1 | inr h ↦ (let odd : Length ≡ Device = sym h.0 ∙ (is ∙ e) in cc) ]),
        (λ e. elim (f n) [
          | inl h ↦ (let odd : Device ≡ Closed = sym h.0 ∙ (is ∙ e) in cc)
          | inr h ↦
              (let odd : Length ≡ Closed = sym h.0 ∙ (is ∙ e) in cc)
        ]),
      );
  waiting = λ w. cc;
}

-- where a message is written, what the side gives is a message
message_at : (stage : HopStage) → is_message stage ≡ true → gift_of stage ≡ message
message_at at.Empty e = cc
message_at at.Message e = refl
message_at at.Whole e = cc
message_at (at.Refusal status) e = cc

-- a first fault is the wire's, or the message's length
pub fails_giving : (x : Seen) (old new : Hop) (answer : Option Put) (result : Result Turn RelayFault) → FitsOffer x old new answer result
    → new.framing ≡ old.framing
    → gift_of new.stage ≡ gift_of old.stage → (fault : RelayFault) → result ≡ Err fault
    → FailsGiving ((gift_of new.stage ≡ message) × BreaksLength x new.framing) fault
fails_giving x old new answer (Ok turn) f e s fault r = cc
fails_giving x old new answer (Err g) (inl h) e s fault r = let is : g ≡ fault = cc in inl (sym is ∙ h.0)
fails_giving x old new answer (Err g) (inr h) e s fault r = let is : g ≡ fault = cc in
    inr (sym is ∙ h.0, (s ∙ message_at old.stage h.2, subst (λ (way : Framing). BreaksLength x way) (sym e) h.3))

-- one or more bytes of a text that has so many are not nothing
take_some : (n : ℕ) (text : List ℕ) → 1 ≤ n → n ≤ length text → take n text ≡ [] → ⊥
take_some n text some few none =
    let long : length (take n text) ≡ n = length-take-le n text few in
    let nothing : length (take n text) ≡ 0 = ap length none in
    omega arith

-- a turn that neither moved a byte nor has an event waits
must_wait : (x : Seen) (new : Hop) (text : List ℕ) (answer : Option Put) (turn : Turn) (b : Bool) → turn.waiting ≡ b
    → FitsAnswer x new answer turn → IfSome answer (FitsPut (length text))
    → turn.events.items ≡ [] → delta_of text answer ≡ [] → b ≡ true
must_wait x new text answer turn true w h f n d = refl
must_wait x new text None turn false w h f n d = absurd (h.moved w n refl)
must_wait x new text (Some (put.Took k)) turn false w h f n d = absurd (take_some k text f.0 f.1 d)
must_wait x new text (Some put.Wait) turn false w h f n d = absurd (h.woke w refl)
must_wait x new text (Some put.Fault) turn false w h f n d = absurd (h.no_fault refl)

-- a write turn waits only without an event and a byte, and always where it has neither
says : (x : Seen) (old new : Hop) (text : List ℕ) (answer : Option Put) (result : Result Turn RelayFault)
    → IfSome answer (FitsPut (length text)) → (old.fault ≡ None → FitsOffer x old new answer result)
    → ((fault : RelayFault) → old.fault ≡ Some fault → result ≡ Err fault) → (o : Option RelayFault) → o ≡ old.fault
    → SaysWaiting (events_of result) (delta_of text answer) result
says x old new text answer (Ok turn) q f r None e =
    let h : FitsAnswer x new answer turn = f (sym e) in
    record {
      idle = λ w.
          let i = h.waiting_is w in
          (i.0, elim i.1 [ inl a ↦ ap (delta_of text) a | inr a ↦ ap (delta_of text) a ]);
      waits = λ t is n d. let same : turn ≡ t = cc in
          ap (λ (v : Turn). v.waiting) (sym same) ∙ must_wait x new text answer turn turn.waiting refl h q n d;
    }
says x old new text answer (Ok turn) q f r (Some g) e = let odd : Ok turn ≡ Err g = r g (sym e) in cc
says x old new text answer (Err fault) q f r o e = record { idle = λ w. cc; waits = λ t is n d. cc }

-- The events.
only_hop : (n : ℕ) (b done : Bool) → (n == 0) ≡ b → AllAre is_of_hop (hop_events n done)
only_hop n true true e = rw e (refl, tt)
only_hop n false true e = rw e (refl, (refl, tt))
only_hop n true false e = rw e tt
only_hop n false false e = rw e (refl, tt)

-- an Usr changes nothing of what came of the chosen message
received_usr : (x : Seen) (n : ℕ) → chosen_received (after x (Usr n)) ≡ chosen_received x
received_usr x n = grind (arith, nat_tests)

-- the events of a write turn change nothing of what came of the chosen message
received_then : (x : Seen) (n : ℕ) (b done : Bool) → (n == 0) ≡ b → chosen_received (after_all x (hop_events n done)) ≡ chosen_received x
received_then x n true true e = rw e (done_moves x).1
received_then x n false true e = rw e ((done_moves (after x (Usr n))).1 ∙ received_usr x n)
received_then x n true false e = rw e refl
received_then x n false false e = rw e (received_usr x n)

-- the history is closed only by Done
still_open : (x : Seen) (n : ℕ) (b : Bool) → (n == 0) ≡ b → (after_all x (usr_events n)).closed ≡ x.closed
still_open x n true e = rw e refl
still_open x n false e = rw e refl

-- where the events of a write turn close an open history, Done is among them
closed_by_done : (x : Seen) (n : ℕ) (done : Bool) → x.closed ≡ false → (after_all x (hop_events n done)).closed ≡ true → done ≡ true
closed_by_done x n true o c = refl
closed_by_done x n false o c = let now : (after_all x (usr_events n)).closed ≡ x.closed = still_open x n (n == 0) refl in
    let odd : true ≡ false = sym c ∙ (now ∙ o) in cc

-- events that are those of a write turn are all the next hop's
same_events : (n : ℕ) (done : Bool) (events : List Event) → events ≡ hop_events n done → AllAre is_of_hop events
same_events n done events e = subst (λ (es : List Event). AllAre is_of_hop es) (sym e) (only_hop n (n == 0) done refl)

-- a write turn that keeps its fault is what a transaction asks of a next hop
pub as_gives : (x : Seen) (tape : Tape) (old new : Hop) (before after' : Past → Type 0) (result : Result Turn RelayFault)
    → KeepsUndelivered x tape → WriteTurn x tape old new before after' result
    → ((turn : Turn) → result ≡ Ok turn → new.fault ≡ None) → ((fault : RelayFault) → old.fault ≡ Some fault → result ≡ Err fault)
    → ((fault : RelayFault) → result ≡ Err fault → new.fault ≡ Some fault)
    → Gives x tape (λ y head body taken. HasGiven y head body taken old) (λ y head body taken. HasGiven y head body taken new)
    (λ taken. IsAside taken old) (λ taken. IsAside taken new)
    (λ head body taken. IsMessage new.framing head body taken) old.fault new.fault (NothingDue x new) before after' result
as_gives x tape old new before after' result u t sound again stays =
    let g = t.goes_on in
    let delta = delta_of t.text t.answer in
    record {
      delta = delta;
      wire = λ p b. (
        after_offer p t.text t.answer,
        t.wire.each p b,
        is_later p t.text t.answer,
        reason x old new p t.text t.answer result t.fits again old.fault refl,
      );
      only = same_events g.sent g.done (events_of result) g.events_are;
      legal = g.legal;
      goes_on = λ o head body taken f h. g.given head body taken f h;
      done = λ o c head body taken f h.
          let closed : (after_all x (hop_events g.sent g.done)).closed ≡ true =
          ap (λ (es : List Event). (after_all x es).closed) (sym g.events_are) ∙ c in
          let is : g.done ≡ true = closed_by_done x g.sent g.done o closed in
          let w = g.whole is in
          let long : length body ≡ chosen_received (after_all x (events_of result)) =
          sym f.end ∙ (u.end ∙ (sym (received_then x g.sent (g.sent == 0) g.done refl)
          ∙ ap (λ (es : List Event). chosen_received (after_all x es)) (sym g.events_are))) in
          let now = g.given head body taken f h in
          whole_at new.stage (after_all x (events_of result)) new.framing head body (taken ++ delta) new.writer w.0 long w.1 now.given;
      aside = g.aside;
      waiting = says x old new t.text t.answer result t.wire.fits t.fits again old.fault refl;
      fault = record { sound = sound; again = again; stays = stays };
    }
