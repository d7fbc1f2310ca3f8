-- What a side reported, as one part of a turn.
use Rattle.std.proofs.Common.{◌≡◌, ℕ, ◌+◌, ◌≤◌, ◌⊎◌, inl, inr, Bool, true, false, List, [], ◌∷◌, length, Option, Some, None, Result, Ok}
use Rattle.std.proofs.Common.{Err, arith, refl, sym, ◌∙◌, ap, subst}
use Rattle.std.proofs.lemmas.Bool.Decides.{nat_tests}
use Rattle.std.specs.Prelude.{if◌then◌else◌}
use Rattle.std.proofs.lemmas.Bool.{false≢true}
use Rattle.trace_core.specs.declared.history.Seen.{Seen}
use Rattle.trace_core.specs.declared.history.Payload.{Payload}
use Rattle.trace_core.specs.declared.history.Event.{Event}
use Rattle.trace_core.specs.declared.history.Event.TheVariants.{In, End, Heard, Continue, NoMod, Mod, Ad, AdEnd, Fail}
use Rattle.trace_core.specs.declared.history.Cause.{Cause}
use Rattle.trace_core.specs.Legal.{Allows, MaySend}
use Rattle.trace_core.specs.Faults.{chooses_original}
use Rattle.trace_core.specs.Held.{original_from, adapted_from}
use Rattle.trace_core.specs.View.{after}
use Rattle.trace_core.specs.History.{History}
use Rattle.trace_core.specs.Turns.{after_all, MayAllFollow, AllAre, in_sum, ad_sum, is_of_source, is_of_replies, is_of_sending, is_of_hop}
use Rattle.trace_core.proofs.Sound.{Sound, sound-after}
use Rattle.plan_rules.specs.Room.{original_room, adapted_room, claim_then}
use Rattle.span_tape.specs.Tape.{Tape, end_of}
use Rattle.wire_kit.specs.Past.{Past, IsLater}
use Rattle.wire_kit.specs.declared.wire.Wire.{Ghosts as Wire}
use Rattle.adapt_sides.specs.declared.source.Source.{Ghosts as Source}
use Rattle.adapt_sides.specs.declared.service.Service.{Ghosts as Service}
use Rattle.adapt_sides.specs.declared.hop.Hop.{Ghosts as Hop}
use Rattle.adapt_sides.specs.Tapes.{Follows, KeepsUnsent, KeepsUndelivered, chosen, chosen_received, chosen_delivered}
use Rattle.adapt_sides.specs.Turns.{ReadsBody, Sends, Hears, Gives, HasReason, SaysWaiting}
use Rattle.adapt_sides.specs.declared.fault.ClientFault.{ClientFault}
use Rattle.adapt_sides.specs.declared.fault.RelayFault.{RelayFault}
use Rattle.adapt_sides.specs.declared.turn.Turn.{Turn}
use Rattle.adapt_hold.specs.Spans.{Span, EndsBody, span_of, span_end}
use Rattle.adapt_hold.specs.Holding.{Holding, IsTied, IsRoomy, shows, moved}
use Rattle.adapt_hold.specs.Steps.{brought_all, HasRoomFor, MayRun, moved_all}
use Rattle.adapt_hold.proofs.Bodies.{ends}
use Rattle.adapt_turn.specs.declared.pass.PassAnswer.{PassAnswer}
use Rattle.adapt_turn.specs.Reports.{Breaks, Lent, View, Report, IsStill, Reported, SourceReported, SendReported, HearReported, HopReported}
use Rattle.adapt_turn.specs.Reports.{source_room, service_room, source_cause, service_cause, hop_cause}
use Rattle.adapt_turn.specs.Stands.{IsChosen, chosen_span}

-- an event without body bytes that come
abbrev pub brings_nothing : Event → Bool
brings_nothing (In n) = false
brings_nothing (Ad n) = false
brings_nothing _ = true

-- Room.

-- after bytes of the source there is room for the rest of those that there was room for
room-in : (x : Seen) (n rest claim window turn : ℕ) → Sound x → x.closed ≡ false → Allows x (In n)
    → n + rest ≤ original_room x claim window turn → rest ≤ original_room (after x (In n)) claim window turn
room-in x n rest claim window turn s c a r = grind (arith, nat_tests)

-- the end of the source's body leaves no less room for the original
room-end : (x : Seen) (rest claim window turn : ℕ) → Allows x End → rest ≤ original_room x claim window turn
    → rest ≤ original_room (after x End) claim window turn
room-end x rest claim window turn a r = grind (arith, nat_tests)

-- events of the source that may follow and bring at most the room for the original each have room
pub room_of_source : (x : Seen) (claim window turn : ℕ) (events : List Event) → Sound x → MayAllFollow x events → AllAre is_of_source events
    → in_sum events ≤ original_room x claim window turn → HasRoomFor x claim window turn events
room_of_source x claim window turn [] s m o r = tt
room_of_source x claim window turn (In n ∷ events) s m o r = (
  omega (arith, r),
  room_of_source (after x (In n)) claim window turn events (sound-after x (In n) s m.1) m.2 o.1
      (room-in x n (in_sum events) claim window turn s m.0 m.1 r),
)
room_of_source x claim window turn (End ∷ events) s m o r = (
  tt,
  room_of_source (after x End) claim window turn events (sound-after x End s m.1) m.2 o.1
      (room-end x (in_sum events) claim window turn m.1 (omega (arith, r))),
)
room_of_source x claim window turn (_ ∷ events) s m o r = absurd (false≢true o.0)

-- after adapted bytes there is room for the rest of those that there was room for
room-ad : (x : Seen) (n rest window turn : ℕ) → Sound x → x.closed ≡ false → Allows x (Ad n) → n + rest ≤ adapted_room x window turn
    → rest ≤ adapted_room (after x (Ad n)) window turn
room-ad x n rest window turn s c a r = grind (arith, nat_tests)

-- a 100 leaves no less room for the adapted body
room-continue : (x : Seen) (rest window turn : ℕ) → Sound x → x.closed ≡ false → Allows x Continue → rest ≤ adapted_room x window turn
    → rest ≤ adapted_room (after x Continue) window turn
room-continue x rest window turn s c a r = grind (arith, nat_tests)

-- a 204 leaves no less room for the adapted body
room-no_mod : (x : Seen) (rest window turn : ℕ) → Sound x → x.closed ≡ false → Allows x NoMod → rest ≤ adapted_room x window turn
    → rest ≤ adapted_room (after x NoMod) window turn
room-no_mod x rest window turn s c a r = grind (arith, nat_tests)

-- a 200 leaves no less room for the adapted body
room-mod : (x : Seen) (payload : Payload) (rest window turn : ℕ) → Sound x → x.closed ≡ false → Allows x (Mod payload)
    → rest ≤ adapted_room x window turn → rest ≤ adapted_room (after x (Mod payload)) window turn
room-mod x payload rest window turn s c a r = grind (arith, nat_tests)

-- the end of the adapted body leaves no less room for it
room-ad_end : (x : Seen) (rest window turn : ℕ) → Sound x → x.closed ≡ false → Allows x AdEnd → rest ≤ adapted_room x window turn
    → rest ≤ adapted_room (after x AdEnd) window turn
room-ad_end x rest window turn s c a r = grind (arith, nat_tests)

-- the first byte of a reply leaves no less room for the adapted body
room-heard : (x : Seen) (rest window turn : ℕ) → Sound x → x.closed ≡ false → Allows x Heard → rest ≤ adapted_room x window turn
    → rest ≤ adapted_room (after x Heard) window turn
room-heard x rest window turn s c a r = grind (arith, nat_tests)

-- events of the replies that may follow and bring at most the room for the adapted body each have room
pub room_of_replies : (x : Seen) (claim window turn : ℕ) (events : List Event) → Sound x → MayAllFollow x events
    → AllAre is_of_replies events
    → ad_sum events ≤ adapted_room x window turn → HasRoomFor x claim window turn events
room_of_replies x claim window turn [] s m o r = tt
room_of_replies x claim window turn (Ad n ∷ events) s m o r = (
  omega (arith, r),
  room_of_replies (after x (Ad n)) claim window turn events (sound-after x (Ad n) s m.1) m.2 o.1
      (room-ad x n (ad_sum events) window turn s m.0 m.1 r),
)
room_of_replies x claim window turn (Continue ∷ events) s m o r = (
  tt,
  room_of_replies (after x Continue) (claim_then (after x Continue) Continue claim window) window turn events
      (sound-after x Continue s m.1) m.2 o.1 (room-continue x (ad_sum events) window turn s m.0 m.1 (omega (arith, r))),
)
room_of_replies x claim window turn (NoMod ∷ events) s m o r = (
  tt,
  room_of_replies (after x NoMod) (claim_then (after x NoMod) NoMod claim window) window turn events (sound-after x NoMod s m.1) m.2
      o.1 (room-no_mod x (ad_sum events) window turn s m.0 m.1 (omega (arith, r))),
)
room_of_replies x claim window turn (Mod body ∷ events) s m o r = (
  tt,
  room_of_replies (after x (Mod body)) (claim_then (after x (Mod body)) (Mod body) claim window) window turn events
      (sound-after x (Mod body) s m.1) m.2 o.1 (room-mod x body (ad_sum events) window turn s m.0 m.1 (omega (arith, r))),
)
room_of_replies x claim window turn (AdEnd ∷ events) s m o r = (
  tt,
  room_of_replies (after x AdEnd) claim window turn events (sound-after x AdEnd s m.1) m.2 o.1
      (room-ad_end x (ad_sum events) window turn s m.0 m.1 (omega (arith, r))),
)
room_of_replies x claim window turn (Heard ∷ events) s m o r = (
  tt,
  room_of_replies (after x Heard) claim window turn events (sound-after x Heard s m.1) m.2 o.1
      (room-heard x (ad_sum events) window turn s m.0 m.1 (omega (arith, r))),
)
room_of_replies x claim window turn (_ ∷ events) s m o r = absurd (false≢true o.0)

-- events that bring nothing

-- events that bring no body bytes each have room
pub room_of_others : (x : Seen) (claim window turn : ℕ) (events : List Event) → AllAre brings_nothing events
    → HasRoomFor x claim window turn events
room_of_others x claim window turn [] o = tt
room_of_others x claim window turn (In n ∷ events) o = absurd (false≢true o.0)
room_of_others x claim window turn (Ad n ∷ events) o = absurd (false≢true o.0)
room_of_others x claim window turn (event ∷ events) o = (tt, room_of_others (after x event) _ window turn events o.1)

-- where each event that passes one test passes another, a list that passes the first passes the second
pub all_map : (f g : Event → Bool) → ((event : Event) → f event ≡ true → g event ≡ true) → (events : List Event) → AllAre f events
    → AllAre g events
all_map f g i [] o = tt
all_map f g i (event ∷ events) o = (i event o.0, all_map f g i events o.1)

-- an event of sending brings no body bytes
sending_brings_nothing : (event : Event) → is_of_sending event ≡ true → brings_nothing event ≡ true
sending_brings_nothing (In n) e = e
sending_brings_nothing (Ad n) e = e
sending_brings_nothing _ e = refl

-- an event of the next hop brings no body bytes
hop_brings_nothing : (event : Event) → is_of_hop event ≡ true → brings_nothing event ≡ true
hop_brings_nothing (In n) e = e
hop_brings_nothing (Ad n) e = e
hop_brings_nothing _ e = refl

-- events that each bring no body bytes bring none in all
none_brought : (events : List Event) → AllAre brings_nothing events → brought_all events ≡ 0
none_brought [] o = refl
none_brought (In n ∷ events) o = absurd (false≢true o.0)
none_brought (Ad n ∷ events) o = absurd (false≢true o.0)
none_brought (_ ∷ events) o = let e = none_brought events o.1 in omega (arith, e)

-- events of the source bring just the bytes that they count of the original
source_brought : (events : List Event) → AllAre is_of_source events → brought_all events ≡ in_sum events
source_brought [] o = refl
source_brought (In n ∷ events) o = let e = source_brought events o.1 in omega (arith, e)
source_brought (End ∷ events) o = let e = source_brought events o.1 in omega (arith, e)
source_brought (_ ∷ events) o = absurd (false≢true o.0)

-- events of the replies bring just the bytes that they count of the adapted body
replies_brought : (events : List Event) → AllAre is_of_replies events → brought_all events ≡ ad_sum events
replies_brought [] o = refl
replies_brought (Ad n ∷ events) o = let e = replies_brought events o.1 in omega (arith, e)
replies_brought (Continue ∷ events) o = let e = replies_brought events o.1 in omega (arith, e)
replies_brought (Heard ∷ events) o = let e = replies_brought events o.1 in omega (arith, e)
replies_brought (NoMod ∷ events) o = let e = replies_brought events o.1 in omega (arith, e)
replies_brought (Mod _ ∷ events) o = let e = replies_brought events o.1 in omega (arith, e)
replies_brought (AdEnd ∷ events) o = let e = replies_brought events o.1 in omega (arith, e)
replies_brought (_ ∷ events) o = absurd (false≢true o.0)

-- What `run` asks.

-- events of the source that may follow, with bytes within the room for the original, may run
pub source_runs : (h : Holding) (events : List Event) (out : List ℕ) → IsTied h → IsRoomy h → MayAllFollow (shows h.history) events
    → AllAre is_of_source events
    → in_sum events ≤ length out → length out ≤ original_room (shows h.history) h.claim h.limits.window h.limits.turn → MayRun h events out
source_runs h events out t r m o c l =
    let b = source_brought events o in
    record {
      may = m;
      carried = omega (arith, b, c);
      room = room_of_source (shows h.history) h.claim h.limits.window h.limits.turn events (ends h t).sound m o (omega (arith, c, l));
      roomy = r;
    }

-- events of the replies that may follow, with bytes within the room for the adapted body, may run
pub replies_run : (h : Holding) (events : List Event) (out : List ℕ) → IsTied h → IsRoomy h → MayAllFollow (shows h.history) events
    → AllAre is_of_replies events
    → ad_sum events ≤ length out → length out ≤ adapted_room (shows h.history) h.limits.window h.limits.turn → MayRun h events out
replies_run h events out t r m o c l =
    let b = replies_brought events o in
    record {
      may = m;
      carried = omega (arith, b, c);
      room = room_of_replies (shows h.history) h.claim h.limits.window h.limits.turn events (ends h t).sound m o (omega (arith, c, l));
      roomy = r;
    }

-- events that may follow and bring no body bytes may run with none
others_run : (h : Holding) (events : List Event) → IsRoomy h → MayAllFollow (shows h.history) events → AllAre brings_nothing events
    → MayRun h events []
others_run h events r m o =
    let b = none_brought events o in
    record {
      may = m;
      carried = omega (arith, b);
      room = room_of_others (shows h.history) h.claim h.limits.window h.limits.turn events o;
      roomy = r;
    }

-- events of sending that may follow may run with no bytes
pub sending_runs : (h : Holding) (events : List Event) → IsRoomy h → MayAllFollow (shows h.history) events → AllAre is_of_sending events
    → MayRun h events []
sending_runs h events r m o = others_run h events r m (all_map is_of_sending brings_nothing sending_brings_nothing events o)

-- events of the next hop that may follow may run with no bytes
pub hop_runs : (h : Holding) (events : List Event) → IsRoomy h → MayAllFollow (shows h.history) events → AllAre is_of_hop events
    → MayRun h events []
hop_runs h events r m o = others_run h events r m (all_map is_of_hop brings_nothing hop_brings_nothing events o)

-- a failure may run in an open transaction with a window left, whatever bytes are there
pub fail_runs : (h : Holding) (cause : Cause) (bytes : List ℕ) → IsRoomy h → (shows h.history).closed ≡ false
    → MayRun h (Fail cause ∷ []) bytes
fail_runs h cause bytes r c = record { may = (c, tt, tt); carried = omega arith; room = (tt, tt); roomy = r }

-- What a side asks of a tape.

-- while the service still takes bytes those of the original are held from the first that isn't sent, or earlier
unsent_from : (x : Seen) → Sound x → x.closed ≡ false → MaySend x → original_from x ≤ x.sent
unsent_from x s c m = grind (arith, nat_tests)

-- the original's tape of a tied holding has what may still go to the service
pub keeps_unsent_at : (h : Holding) (history : History) (tape : Tape) → IsTied h → history ≡ h.history → span_of tape ≡ h.original
    → KeepsUnsent (shows history) tape
keeps_unsent_at h history tape t e te =
    let n = ends h t in
    let end : end_of tape ≡ (shows h.history).received = ap span_end te ∙ n.original_end in
    let base : tape.base ≡ original_from (shows h.history) = ap (λ (s : Span). s.base) te ∙ n.original_base in
    let at : KeepsUnsent (shows h.history) tape = record {
      end = end;
      base = λ c m. let f = unsent_from (shows h.history) n.sound c m in
          omega (arith, base, f);
    } in
    subst (λ (y : History). KeepsUnsent (shows y) tape) (sym e) at

record ChosenTape (x : Seen) (base end : ℕ) : Type 0 where
  ends : end ≡ chosen_received x
  begins : x.closed ≡ false → base ≡ chosen_delivered x

-- of a chosen original the bytes are held from the first that hasn't gone out
original_base : (x : Seen) → Sound x → x.closed ≡ false → chooses_original x ≡ true → original_from x ≡ x.original_delivered
original_base x s c o = grind (arith, nat_tests)

-- where the original isn't chosen the adapted bytes are held from the first that hasn't gone out
adapted_base : (x : Seen) → Sound x → x.closed ≡ false → chooses_original x ≡ false → adapted_from x ≡ x.adapted_delivered
adapted_base x s c o = grind (arith, nat_tests)

-- of the two tapes the chosen one ends with what came of its body and begins with what goes out next
by_choice : (b : Bool) (x : Seen) (o a : Span) → chooses_original x ≡ b → Sound x → o.base ≡ original_from x → span_end o ≡ x.received
    → a.base ≡ adapted_from x → span_end a ≡ x.adapted_received
    → ChosenTape x (if b then o else a).base (span_end (if b then o else a))
by_choice true x o a e s ob oe ab ae = record {
  ends = oe ∙ sym (rw e refl);
  begins = λ c. ob ∙ original_base x s c e ∙ sym (rw e refl);
}
by_choice false x o a e s ob oe ab ae = record {
  ends = ae ∙ sym (rw e refl);
  begins = λ c. ab ∙ adapted_base x s c e ∙ sym (rw e refl);
}

-- the chosen message's tape of a tied holding begins with what goes to the next hop next
pub keeps_undelivered_at : (h : Holding) (history : History) (tape : Tape) → IsTied h → history ≡ h.history → span_of tape ≡ chosen_span h
    → KeepsUndelivered (shows history) tape
keeps_undelivered_at h history tape t e te =
    let n = ends h t in
    let w = by_choice (chooses_original (shows h.history)) (shows h.history) h.original h.adapted refl n.sound n.original_base
    n.original_end n.adapted_base n.adapted_end in
    let at : KeepsUndelivered (shows h.history) tape =
    record { end = ap span_end te ∙ w.ends; base = λ c. ap (λ (s : Span). s.base) te ∙ w.begins c } in
    subst (λ (y : History). KeepsUndelivered (shows y) tape) (sym e) at

-- a tape whose bytes are those of a span has the bytes of a body where the span has
pub follows_span : (tape : Tape) (s : Span) (body : List ℕ) → span_of tape ≡ s → EndsBody s body → Follows tape body
follows_span tape s body e f = let g : EndsBody (span_of tape) body = subst (λ (x : Span). EndsBody x body) (sym e) f in
    record { end = g.end; bytes = g.bytes }

-- of two tapes with the bytes of two bodies the one that is taken has those of the body that is taken
chosen_by : (b : Bool) (o a : Span) (original adapted : List ℕ) (m : Bool) → (b ≡ true) ⊎ (m ≡ true) → EndsBody o original
    → EndsBody a adapted
    → EndsBody (if b then o else a) (if b then original else if m then adapted else [])
chosen_by true o a original adapted m w f g = f
chosen_by false o a original adapted true w f g = g
chosen_by false o a original adapted false (inl e) f g = absurd (false≢true e)
chosen_by false o a original adapted false (inr e) f g = absurd (false≢true e)

-- the chosen message's tape has the bytes of the chosen body
pub ends_chosen : (h : Holding) (original adapted : List ℕ) → IsChosen (shows h.history) → EndsBody h.original original
    → EndsBody h.adapted adapted
    → EndsBody (chosen_span h) (chosen (shows h.history) original adapted)
ends_chosen h original adapted w f g = chosen_by (chooses_original (shows h.history)) h.original h.adapted original adapted
    (shows h.history).modified w f g

-- The parts, from a side's turn.

abbrev WireOf : {F : Type 0} → View F → Report → Result Turn F → Type 0
WireOf v r result = (p : Past) → v.before p → (q : Past) × v.after q × IsLater p r.given r.taken q
    × HasReason v.of_wire p q v.old_fault v.rests v.waits result

abbrev Closed : Cause → PassAnswer → Type 0
Closed cause passed = passed ≡ record { waiting = false; failed = Some cause; broken = false }

abbrev WentOn : Turn → PassAnswer → Type 0
WentOn turn passed = passed ≡ record { waiting = turn.waiting; failed = None; broken = false }

abbrev IsBroken : PassAnswer → Type 0
IsBroken passed = passed ≡ record { waiting = false; failed = None; broken = true }

-- nothing was reported
abbrev silent : (given taken : List ℕ) → Report
silent given taken = record { events = []; out = []; given = given; taken = taken }

-- a turn of a side that went well is a pass whose events were stepped
took_part : {F : Type 0} {v : View F} {h k : Holding} {r : Report} {passed : PassAnswer} (turn : Turn) (delta : List ℕ)
    → WentOn turn passed → WireOf v r (Ok turn) → AllAre v.events r.events → MayRun h r.events r.out
    → (delta ≡ [] → IsStill r) → (IsStill r → delta ≡ []) → SaysWaiting r.events delta (let x : Result Turn F = Ok turn in x)
    → k ≡ moved_all h r.events r.out → v.new_fault ≡ None → Reported v h k r passed
took_part {F} {v} {h} {k} {r} {passed} turn delta e wire only runs still none says is sound =
    subst (λ (y : PassAnswer). Reported v h k r y) (sym e) (record {
      wire = λ p b. let w = wire p b in (w.0, w.1, w.2, record { failed = λ cause n. cc; waiting = w.3.waiting });
      only = only;
      runs = runs;
      is = is;
      quiet = λ cause n. cc;
      blamed = λ cause n. cc;
      tells = record {
        idle = λ w. let i = says.idle w in (still i.1, i.0, refl);
        active = λ w b d x n. false≢true (sym w ∙ says.waits turn refl x (none d));
      };
      sound = λ n b. sound;
    })

-- a turn of a side that met a fault is a pass that reports no event and fails with that fault's cause
failed_part : {F : Type 0} {v : View F} {h k : Holding} {passed : PassAnswer} (fault : F) (given taken : List ℕ)
    → Closed (v.cause fault) passed → WireOf v (silent given taken) (Err fault) → v.new_fault ≡ Some fault → IsRoomy h
    → (shows h.history).closed ≡ false
    → k ≡ moved h (Fail (v.cause fault)) [] → Reported v h k (silent given taken) passed
failed_part {F} {v} {h} {k} {passed} fault given taken e wire stays r c is =
    subst (λ (y : PassAnswer). Reported v h k (silent given taken) y) (sym e) (record {
      wire = λ p b. let w = wire p b in (
        w.0,
        w.1,
        w.2,
        record {
          failed = λ cause n. (fault, stays, (let same : Some (v.cause fault) ≡ Some cause = n in cc), λ o. w.3.failed fault refl o);
          waiting = λ n. absurd (false≢true n);
        },
      );
      only = tt;
      runs = fail_runs h (v.cause fault) [] r c;
      is = is;
      quiet = λ cause n. refl;
      blamed = λ cause n. (fault, stays, (let same : Some (v.cause fault) ≡ Some cause = n in cc));
      tells = record { idle = λ n. absurd (false≢true n); active = λ w b d z n. cc };
      sound = λ n b. cc;
    })

-- the connection broke where the request may begin anew: nothing is stepped
broken_part : {F : Type 0} {v : View F} {h k : Holding} {passed : PassAnswer} (fault : F) (given taken : List ℕ)
    → IsBroken passed → WireOf v (silent given taken) (Err fault) → IsRoomy h → k ≡ h → Reported v h k (silent given taken) passed
broken_part {F} {v} {h} {k} {passed} fault given taken e wire r is =
    subst (λ (y : PassAnswer). Reported v h k (silent given taken) y) (sym e) (record {
      wire = λ p b. let w = wire p b in (w.0, w.1, w.2, record { failed = λ cause n. cc; waiting = λ n. absurd (false≢true n) });
      only = tt;
      runs = record { may = tt; carried = omega arith; room = tt; roomy = r };
      is = is;
      quiet = λ cause n. refl;
      blamed = λ cause n. cc;
      tells = record { idle = λ n. absurd (false≢true n); active = λ w b d z n. absurd (false≢true (sym b)) };
      sound = λ n b. absurd (false≢true (sym b));
    })

-- a turn that met a fault steps nothing where the connection broke, and else fails with that fault's cause
either_part : {F : Type 0} {v : View F} {h k : Holding} {passed : PassAnswer} (fault : F) (given taken : List ℕ) (b : Bool)
    → passed.broken ≡ b → WireOf v (silent given taken) (Err fault) → v.new_fault ≡ Some fault → IsRoomy h
    → (shows h.history).closed ≡ false
    → (passed.broken ≡ true → (k ≡ h) × IsBroken passed)
    → (passed.broken ≡ false → (k ≡ moved h (Fail (v.cause fault)) []) × Closed (v.cause fault) passed)
    → Reported v h k (silent given taken) passed
either_part fault given taken true e wire stays r c broke shut = broken_part fault given taken (broke e).1 wire r (broke e).0
either_part fault given taken false e wire stays r c broke shut = failed_part fault given taken (shut e).1 wire stays r c (shut e).0

-- the source's

abbrev pub ReadsOf : {S H W : Type 0} → Source S H → Wire W → (old new : Lent S W) → ℕ → List ℕ → Result Turn RelayFault → Type 0
ReadsOf s w old new room out result = ReadsBody (λ x body read. s.has_read x body read old.side)
    (λ x body read. s.has_read x body read new.side) (λ x. s.agrees x old.side) (λ x. s.agrees x new.side)
    (s.fault old.side) (s.fault new.side) (s.rests room new.side) (s.is_framed room new.side) (s.is_over new.side) (w.past old.wire)
    (w.past new.wire) out result

-- a read of the source that went well is its pass, whose events were stepped
pub source_took : {S H W : Type 0} (s : Source S H) (w : Wire W) (old new : Lent S W) (turn : Turn) (events : List Event) (out : List ℕ)
    (n : ℕ) (passed : PassAnswer)
    → n ≡ source_room old.hold → IsTied old.hold → IsRoomy old.hold → (shows old.hold.history).closed ≡ false
    → s.agrees (shows old.hold.history) old.side → length out ≤ source_room old.hold
    → events ≡ turn.events.items → ReadsOf s w old new n out (Ok turn) → new.hold ≡ moved_all old.hold events out → WentOn turn passed
    → SourceReported s w old new passed
source_took s w old new turn events out n passed same t r c a l e b0 is went =
    let h = old.hold in
    let b = subst (λ (y : ℕ). ReadsOf s w old new y out (Ok turn)) same b0 in
    let legal = b.legal (shows h.history) a c in
    record {
      delta = b.delta;
      out = out;
      reported = turn.events.items;
      reports = took_part turn b.delta.bytes went (λ p g. let u = b.wire p g in (u.0, u.1, u.2, u.3)) b.only
          (source_runs h turn.events.items out t r legal.0 b.only b.count l)
          (λ d. (d, refl)) (λ d. d.0) b.waiting (is ∙ ap (λ (es : List Event). moved_all h es out) e) (b.fault.sound turn refl);
      few = omega (arith, b.count, l);
      framed = λ g. b.framed (sym (ap (λ (y : PassAnswer). y.waiting) went) ∙ g);
      wire = λ p g. let u = b.wire p g in (u.0, u.1, u.2, u.4);
      told = λ k o. b.told turn refl o (after_all (shows h.history) turn.events.items) legal.1;
      agrees = legal.1;
      goes_on = λ body read h0. b.goes_on (shows h.history) body read h0 c;
    }

-- a read of the source that met a fault is its pass, which fails with that fault's cause
pub source_failed : {S H W : Type 0} (s : Source S H) (w : Wire W) (old new : Lent S W) (fault : RelayFault) (out : List ℕ) (n : ℕ)
    (cause : Cause) (passed : PassAnswer)
    → n ≡ source_room old.hold → IsRoomy old.hold → (shows old.hold.history).closed ≡ false → s.agrees (shows old.hold.history) old.side
    → ReadsOf s w old new n out (Err fault) → cause ≡ source_cause fault → Closed cause passed → new.hold ≡ moved old.hold (Fail cause) []
    → SourceReported s w old new passed
source_failed s w old new fault out n cause passed same r c a b0 own did is =
    let h = old.hold in
    let b = subst (λ (y : ℕ). ReadsOf s w old new y out (Err fault)) same b0 in
    let legal = b.legal (shows h.history) a c in
    record {
      delta = b.delta;
      out = [];
      reported = [];
      reports = failed_part fault b.delta.bytes [] (did ∙ ap (λ (y : Cause). record { waiting = false; failed = Some y; broken = false })
          own) (λ p g. let u = b.wire p g in (u.0, u.1, u.2, u.3))
          (b.fault.stays fault refl) r c (is ∙ ap (λ (y : Cause). moved h (Fail y) []) own);
      few = omega arith;
      framed = λ g. absurd (false≢true (sym (ap (λ (y : PassAnswer). y.waiting) did) ∙ g));
      wire = λ p g. let u = b.wire p g in (u.0, u.1, u.2, u.4);
      told = λ k o. absurd (let odd : Some cause ≡ None = sym (ap (λ (y : PassAnswer). y.failed) did) ∙ k in cc);
      agrees = legal.1;
      goes_on = λ body read h0. b.goes_on (shows h.history) body read h0 c;
    }

-- the service's

abbrev pub SendsOf : {V W : Type 0} → Service V → Wire W → (old new : Lent V W) → History → Tape → Result Turn ClientFault → Type 0
SendsOf v w old new history tape result = Sends (shows history) tape (λ heads x came taken. v.has_sent heads x came taken old.side)
    (λ heads x came taken. v.has_sent heads x came taken new.side)
    (v.fault old.side) (v.fault new.side) (v.rests_writing (shows history) new.side) (w.past old.wire) (w.past new.wire) result

-- a write to the service that went well is its pass, whose events were stepped
pub send_took : {V W : Type 0} (v : Service V) (w : Wire W) (old new : Lent V W) (history : History) (tape : Tape) (turn : Turn)
    (events : List Event) (passed : PassAnswer)
    → IsRoomy old.hold → history ≡ old.hold.history → span_of tape ≡ old.hold.original → events ≡ turn.events.items
    → SendsOf v w old new history tape (Ok turn) → new.hold ≡ moved_all old.hold events [] → WentOn turn passed
    → SendReported v w old new passed
send_took v w old new history tape turn events passed r he te e b0 is went =
    let h = old.hold in
    let b = subst (λ (y : History). SendsOf v w old new y tape (Ok turn)) he b0 in
    record {
      delta = b.delta;
      reported = turn.events.items;
      reports = took_part turn b.delta went b.wire b.only (sending_runs h turn.events.items r b.legal b.only)
          (λ d. (refl, d)) (λ d. d.1) b.waiting (is ∙ ap (λ (es : List Event). moved_all h es []) e) (b.fault.sound turn refl);
      goes_on = λ request came taken f s. b.goes_on request came taken (follows_span tape h.original came te f) s;
    }

-- a write to the service that met a fault is its pass, which broke the connection with no step, or fails
pub send_failed : {V W : Type 0} (v : Service V) (w : Wire W) (old new : Lent V W) (history : History) (tape : Tape) (fault : ClientFault)
    (passed : PassAnswer)
    → IsRoomy old.hold → (shows old.hold.history).closed ≡ false → history ≡ old.hold.history → span_of tape ≡ old.hold.original
    → SendsOf v w old new history tape (Err fault)
    → (passed.broken ≡ true → (new.hold ≡ old.hold) × IsBroken passed)
    → (passed.broken ≡ false → (new.hold ≡ moved old.hold (Fail (service_cause fault)) []) × Closed (service_cause fault) passed)
    → SendReported v w old new passed
send_failed v w old new history tape fault passed r c he te b0 broke shut =
    let b = subst (λ (y : History). SendsOf v w old new y tape (Err fault)) he b0 in
    record {
      delta = b.delta;
      reported = [];
      reports = either_part fault [] b.delta passed.broken refl b.wire (b.fault.stays fault refl) r c broke shut;
      goes_on = λ request came taken f s. b.goes_on request came taken (follows_span tape old.hold.original came te f) s;
    }

abbrev pub HearsOf : {V W : Type 0} → Service V → Wire W → (old new : Lent V W) → History → ℕ → List ℕ → Result Turn ClientFault → Type 0
HearsOf v w old new history room out result = Hears (shows history) (λ x adapted read. v.has_heard x adapted read old.side)
    (λ x adapted read. v.has_heard x adapted read new.side)
    (v.fault old.side) (v.fault new.side) (v.rests_reading (shows history) room new.side) (v.is_framed room new.side) (w.past old.wire)
    (w.past new.wire) out result

-- a read of the service stands by the holding's own history and room
hears_at : {V W : Type 0} (v : Service V) (w : Wire W) (old new : Lent V W) (history : History) (n : ℕ) (out : List ℕ)
    (result : Result Turn ClientFault)
    → n ≡ service_room old.hold → history ≡ old.hold.history → HearsOf v w old new history n out result
    → HearsOf v w old new old.hold.history (service_room old.hold) out result
hears_at v w old new history n out result same he b =
    subst (λ (y : ℕ). HearsOf v w old new old.hold.history y out result) same
    (subst (λ (y : History). HearsOf v w old new y n out result) he b)

-- the events of a read of the service that went well may run with the adapted bytes that came
pub hear_runs : {V W : Type 0} (v : Service V) (w : Wire W) (old new : Lent V W) (history : History) (turn : Turn) (events : List Event)
    (n : ℕ) (out : List ℕ)
    → IsTied old.hold → IsRoomy old.hold → history ≡ old.hold.history → events ≡ turn.events.items → length out ≤ service_room old.hold
    → HearsOf v w old new history n out (Ok turn) → MayRun old.hold events out
hear_runs v w old new history turn events n out t r he e l b =
    subst (λ (es : List Event). MayRun old.hold es out) (sym e)
    (replies_run old.hold turn.events.items out t r (subst (λ (y : History). MayAllFollow (shows y) turn.events.items) he b.legal) b.only
    b.count l)

-- a pass after a fault doesn't wait
not_waiting : (passed : PassAnswer) {A B : Type 0} {cause : Cause} (b : Bool) → passed.broken ≡ b
    → (passed.broken ≡ true → A × IsBroken passed) → (passed.broken ≡ false → B × Closed cause passed) → passed.waiting ≡ true → ⊥
not_waiting passed true e broke shut w = false≢true (sym (ap (λ (y : PassAnswer). y.waiting) (broke e).1) ∙ w)
not_waiting passed false e broke shut w = false≢true (sym (ap (λ (y : PassAnswer). y.waiting) (shut e).1) ∙ w)

-- a read of the service that went well is its pass, whose events were stepped
pub hear_took : {V W : Type 0} (v : Service V) (w : Wire W) (old new : Lent V W) (history : History) (turn : Turn) (events : List Event)
    (out : List ℕ) (n : ℕ) (passed : PassAnswer)
    → n ≡ service_room old.hold → IsTied old.hold → IsRoomy old.hold → history ≡ old.hold.history → events ≡ turn.events.items
    → length out ≤ service_room old.hold
    → HearsOf v w old new history n out (Ok turn) → new.hold ≡ moved_all old.hold events out → WentOn turn passed
    → HearReported v w old new passed
hear_took v w old new history turn events out n passed same t r he e l b0 is went =
    let h = old.hold in
    let b = hears_at v w old new history n out (Ok turn) same he b0 in
    record {
      delta = b.delta;
      out = out;
      reported = turn.events.items;
      reports = took_part turn b.delta went b.wire b.only (replies_run h turn.events.items out t r b.legal b.only b.count l)
          (λ d. (d, refl)) (λ d. d.0) b.waiting (is ∙ ap (λ (es : List Event). moved_all h es out) e) (b.fault.sound turn refl);
      few = omega (arith, b.count, l);
      framed = λ g. b.framed (sym (ap (λ (y : PassAnswer). y.waiting) went) ∙ g);
      goes_on = b.goes_on;
    }

-- a read of the service that met a fault is its pass, which broke the connection with no step, or fails
pub hear_failed : {V W : Type 0} (v : Service V) (w : Wire W) (old new : Lent V W) (history : History) (fault : ClientFault) (out : List ℕ)
    (n : ℕ) (passed : PassAnswer)
    → n ≡ service_room old.hold → IsRoomy old.hold → (shows old.hold.history).closed ≡ false → history ≡ old.hold.history
    → HearsOf v w old new history n out (Err fault)
    → (passed.broken ≡ true → (new.hold ≡ old.hold) × IsBroken passed)
    → (passed.broken ≡ false → (new.hold ≡ moved old.hold (Fail (service_cause fault)) []) × Closed (service_cause fault) passed)
    → HearReported v w old new passed
hear_failed v w old new history fault out n passed same r c he b0 broke shut =
    let b = hears_at v w old new history n out (Err fault) same he b0 in
    record {
      delta = b.delta;
      out = [];
      reported = [];
      reports = either_part fault b.delta [] passed.broken refl b.wire (b.fault.stays fault refl) r c broke shut;
      few = omega arith;
      framed = λ g. absurd (not_waiting passed passed.broken refl broke shut g);
      goes_on = b.goes_on;
    }

-- the next hop's

abbrev pub GivesOf : {K G W : Type 0} → Hop K G → Wire W → (old new : Lent K W) → History → Tape → Result Turn RelayFault → Type 0
GivesOf k w old new history tape result = Gives (shows history) tape (λ x head body taken. k.has_given x head body taken old.side)
    (λ x head body taken. k.has_given x head body taken new.side)
    (λ taken. k.aside taken old.side) (λ taken. k.aside taken new.side) (λ head body taken. k.is_whole head body taken new.side)
    (k.fault old.side) (k.fault new.side) (k.rests (shows history) new.side) (w.past old.wire) (w.past new.wire) result

-- a write to the next hop that went well is its pass, whose events were stepped
pub hop_took : {K G W : Type 0} (k : Hop K G) (w : Wire W) (old new : Lent K W) (history : History) (tape : Tape) (turn : Turn)
    (events : List Event) (passed : PassAnswer)
    → IsRoomy old.hold → (shows old.hold.history).closed ≡ false → IsChosen (shows old.hold.history) → history ≡ old.hold.history
    → span_of tape ≡ chosen_span old.hold → events ≡ turn.events.items
    → GivesOf k w old new history tape (Ok turn) → new.hold ≡ moved_all old.hold events [] → WentOn turn passed
    → HopReported k w old new passed
hop_took k w old new history tape turn events passed r c chooses he te e b0 is went =
    let h = old.hold in
    let b = subst (λ (y : History). GivesOf k w old new y tape (Ok turn)) he b0 in
    record {
      delta = b.delta;
      reported = turn.events.items;
      reports = took_part turn b.delta went b.wire b.only (hop_runs h turn.events.items r b.legal b.only)
          (λ d. (refl, d)) (λ d. d.1) b.waiting (is ∙ ap (λ (es : List Event). moved_all h es []) e) (b.fault.sound turn refl);
      goes_on = λ original adapted head taken f g given. b.goes_on c head (chosen (shows h.history) original adapted) taken
          (follows_span tape (chosen_span h) _ te (ends_chosen h original adapted chooses f g)) given;
      done = λ original adapted head taken f g over given. b.done c over head (chosen (shows h.history) original adapted) taken
          (follows_span tape (chosen_span h) _ te (ends_chosen h original adapted chooses f g)) given;
    }

-- a write to the next hop that met a fault is its pass, which fails with that fault's cause
pub hop_failed : {K G W : Type 0} (k : Hop K G) (w : Wire W) (old new : Lent K W) (history : History) (tape : Tape) (fault : RelayFault)
    (cause : Cause) (passed : PassAnswer)
    → IsRoomy old.hold → (shows old.hold.history).closed ≡ false → IsChosen (shows old.hold.history) → history ≡ old.hold.history
    → span_of tape ≡ chosen_span old.hold
    → GivesOf k w old new history tape (Err fault) → cause ≡ hop_cause fault → Closed cause passed
    → new.hold ≡ moved old.hold (Fail cause) []
    → HopReported k w old new passed
hop_failed k w old new history tape fault cause passed r c chooses he te b0 own did is =
    let h = old.hold in
    let b = subst (λ (y : History). GivesOf k w old new y tape (Err fault)) he b0 in
    record {
      delta = b.delta;
      reported = [];
      reports = failed_part fault [] b.delta (did ∙ ap (λ (y : Cause). record { waiting = false; failed = Some y; broken = false }) own)
          b.wire
          (b.fault.stays fault refl) r c (is ∙ ap (λ (y : Cause). moved h (Fail y) []) own);
      goes_on = λ original adapted head taken f g given. b.goes_on c head (chosen (shows h.history) original adapted) taken
          (follows_span tape (chosen_span h) _ te (ends_chosen h original adapted chooses f g)) given;
      done = λ original adapted head taken f g over given. absurd (false≢true (sym c ∙ over));
    }

-- the service's fault where the request might not begin anew

-- a pass failed by a fault of the service only where that fault lets no request begin anew
pub unbroken_by : (h k : Holding) (reused : Bool) (fault : ClientFault) (f1 : Option ClientFault) (passed : PassAnswer) (b : Bool)
    → passed.broken ≡ b → f1 ≡ Some fault
    → (passed.broken ≡ true → (k ≡ h) × IsBroken passed)
    → (passed.broken ≡ false → Breaks h.history reused (Some fault) → ⊥)
    → (cause : Cause) → passed.failed ≡ Some cause → Breaks h.history reused f1 → ⊥
unbroken_by h k reused fault f1 passed true e stays broke shut cause f =
    let n : None ≡ Some cause = sym (ap (λ (y : PassAnswer). y.failed) (broke e).1) ∙ f in absurd cc
unbroken_by h k reused fault f1 passed false e stays broke shut cause f =
    subst (λ (y : Option ClientFault). Breaks h.history reused y → ⊥) (sym stays) (shut e)
