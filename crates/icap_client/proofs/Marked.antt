-- The side's marks after a turn's events.
use Rattle.std.proofs.Common.{◌≡◌, ℕ, ◌+◌, Bool, true, false, not, ◌||◌, ◌&&◌, List, [], ◌∷◌, refl, ap, sym, ◌∙◌, arith, Option, Result}
use Rattle.std.proofs.Common.{◌==◌, ◌⊎◌, inl, inr}
use Rattle.std.specs.List.{list_any}
use Rattle.trace_core.specs.declared.history.Event.{Event}
use Rattle.trace_core.specs.declared.history.Event.TheVariants.{Svc, Stop, Retry}
use Rattle.trace_core.specs.declared.history.Plan.{Plan}
use Rattle.trace_core.specs.declared.history.Seen.{Seen}
use Rattle.trace_core.specs.History.{is_continue, is_no_mod, is_mod, is_preview, is_retry, is_whole}
use Rattle.trace_core.specs.View.{after}
use Rattle.span_tape.specs.Tape.{Tape}
use Rattle.wire_kit.specs.Past.{Past}
use Rattle.adapt_sides.specs.declared.turn.Turn.{Turn}
use Rattle.adapt_sides.specs.declared.fault.ClientFault.{ClientFault}
use Rattle.icap_client.specs.Events.{MayCome, AllAre, after_all, is_final, is_of_sending}
use Rattle.icap_client.specs.Marks.{might_retry}
use Rattle.icap_client.specs.Sending.{HasSent, NothingDue, sending_events}
use Rattle.icap_client.specs.Reading.{ReadSide, SideHeard, HasBegun, NotBegun}
use Rattle.icap_client.specs.Turns.{Service, ServiceSent, ServiceHeard, Sends, Hears, events_of, is_answered, is_last_at}

-- ---- a preview that was answered

-- a bit or false is that bit
or_none : (b : Bool) → b ≡ (b || false)
or_none true = refl
or_none false = refl

-- whether one of three bits is true stays so if the first two change places
or_swap : (a b c : Bool) → ((a || b) || c) ≡ (b || (a || c))
or_swap true true c = refl
or_swap true false c = refl
or_swap false b c = or_same b c
  where
    or_same : (b c : Bool) → ((false || b) || c) ≡ (b || (false || c))
    or_same true c = refl
    or_same false c = refl

-- after events the history has a 100 just if it had one or they bring one
continued_after : (x : Seen) (events : List Event) → (after_all x events).continued ≡ (x.continued || list_any is_continue events)
continued_after x [] = or_none x.continued
continued_after x (event ∷ events) = continued_after (after x event) events
    ∙ or_swap (is_continue event) x.continued (list_any is_continue events)

-- whether one of five bits is true doesn't depend on their order
or_mixed : (a n b m c : Bool) → (((a || n) || (b || m)) || c) ≡ ((n || m) || ((a || b) || c))
or_mixed true true true true c = refl
or_mixed true true true false c = refl
or_mixed true true false true c = refl
or_mixed true true false false c = refl
or_mixed true false true true c = refl
or_mixed true false true false c = refl
or_mixed true false false true c = refl
or_mixed true false false false c = refl
or_mixed false true true true c = refl
or_mixed false true true false c = refl
or_mixed false true false true c = refl
or_mixed false true false false c = refl
or_mixed false false true true c = refl
or_mixed false false true false c = refl
or_mixed false false false true c = refl
or_mixed false false false false c = refl

-- after events the history has a final response just if it had one or they bring one
final_after : (x : Seen) (events : List Event) → ((after_all x events).no_mod || (after_all x events).modified)
    ≡ ((x.no_mod || x.modified) || list_any is_final events)
final_after x [] = or_none (x.no_mod || x.modified)
final_after x (event ∷ events) = final_after (after x event) events ∙ or_mixed (is_no_mod event) x.no_mod (is_mod event) x.modified
    (list_any is_final events)

-- events leave the plan of a history
plan_after : (x : Seen) (events : List Event) → (after_all x events).plan ≡ x.plan
plan_after x [] = refl
plan_after x (event ∷ events) = plan_after (after x event) events

-- whether a preview is answered after events is told by what stood before and what they bring
pub answered_after : (x : Seen) (events : List Event)
    → (is_preview x.plan.kind && (not (x.continued || list_any is_continue events) &&
    ((x.no_mod || x.modified) || list_any is_final events))) ≡ is_answered (after_all x events)
answered_after x events =
    let y = after_all x events in
    ap (λ (r : Bool). is_preview x.plan.kind && (not (x.continued || list_any is_continue events) && r)) (sym (final_after x events))
    ∙ (ap (λ (c : Bool). is_preview x.plan.kind && (not c && (y.no_mod || y.modified))) (sym (continued_after x events))
    ∙ ap (λ (p : Plan). is_preview p.kind && (not y.continued && (y.no_mod || y.modified))) (sym (plan_after x events)))

-- bits of which one is false aren't true together
and_none : (a b : Bool) → (a && (b && false)) ≡ false
and_none true true = refl
and_none true false = refl
and_none false b = refl

-- before the first byte of a reply a history has neither a 204 nor a 200
unheard_marks : (x : Seen) (adapted read : List ℕ) → HasBegun x read ⊎ NotBegun x adapted read → x.heard ≡ false
    → (x.no_mod ≡ false) × (x.modified ≡ false)
unheard_marks x adapted read (inl h) f = let odd : true ≡ false = sym h.0 ∙ f in cc
unheard_marks x adapted read (inr b) f = (b.marks.no_mod_is, b.marks.modified_is)

-- before the first byte of a reply nothing is answered, and so nothing is after a Retry
pub none_answered : (x : Seen) (adapted read : List ℕ) (s : ReadSide) → x.heard ≡ false → SideHeard x adapted read s
    → is_answered (after x Retry) ≡ false
none_answered x adapted read s f h =
    let marks = unheard_marks x adapted read h.begun f in
    ap (λ (n : Bool). is_preview x.plan.kind && (not x.continued && (n || x.modified))) marks.0
    ∙ (ap (λ (m : Bool). is_preview x.plan.kind && (not x.continued && (false || m))) marks.1
    ∙ and_none (is_preview x.plan.kind) (not x.continued))

-- ---- the last Stop

-- a Stop after no further byte is the last one just if a Stop now is
last_here : (x : Seen) → is_last_at x x.sent ≡ is_last_at x (x.sent + 0)
last_here x = ap (λ (n : ℕ). is_last_at x n) (omega arith)

-- whether a Stop is the last one after more bytes doesn't depend on how these are added
last_moved : (x : Seen) (n : ℕ) → is_last_at x (x.sent + n) ≡ is_last_at x (n + x.sent)
last_moved x n = let e : x.sent + n ≡ n + x.sent = omega arith in ap (λ (m : ℕ). is_last_at x m) e

-- after a Stop the last one stands just if this is it or it stood before
stop_none : (x : Seen) → (after x Stop).last_stop ≡ (is_last_at x x.sent || x.last_stop)
stop_none x = refl

-- after body bytes and a Stop the last one stands just if this is it or it stood before
stop_some : (x : Seen) (n : ℕ) → (after (after x (Svc n)) Stop).last_stop ≡ (is_last_at x (n + x.sent) || x.last_stop)
stop_some x n =
    let r : 0 + x.received ≡ x.received = omega arith in
    ap (λ (m : ℕ). (is_whole x.plan.kind || (is_preview x.plan.kind && not x.stopped && x.ended && (n + x.sent == m)) ||
    (is_preview x.plan.kind && x.continued)) || x.last_stop) r

-- after body bytes, if any, and a Stop the last one stands just if this is it or it stood before
last_by : (x : Seen) (n : ℕ) (b : Bool) → (n == 0) ≡ b
    → (after_all x (sending_events n true)).last_stop ≡ (is_last_at x (x.sent + n) || x.last_stop)
last_by x n true e =
    let z : n ≡ 0 = grind (arith) in
    rw e (stop_none x ∙ ap (λ (m : ℕ). is_last_at x m || x.last_stop) (omega (arith, z)))
last_by x n false e = rw e (stop_some x n ∙ ap (λ (l : Bool). l || x.last_stop) (sym (last_moved x n)))

-- body bytes without a Stop leave whether the last Stop stands
last_still : (x : Seen) (n : ℕ) (b : Bool) → (n == 0) ≡ b → (after_all x (sending_events n false)).last_stop ≡ x.last_stop
last_still x n true e = rw e refl
last_still x n false e = rw e refl

-- `all` says that a Stop stands only after all bytes that were to come next
pub last_after : (x : Seen) (n count from : ℕ) (e : Bool) (events : List Event) → events ≡ sending_events n e → from ≡ x.sent
    → (e ≡ true → n ≡ count)
    → ((e && is_last_at x (from + count)) || x.last_stop) ≡ (after_all x events).last_stop
last_after x n count from true events i f all =
    let same : from + count ≡ x.sent + n = omega (arith, f, all refl) in
    ap (λ (m : ℕ). is_last_at x m || x.last_stop) same
    ∙ (sym (last_by x n (n == 0) refl) ∙ ap (λ (es : List Event). (after_all x es).last_stop) (sym i))
last_after x n count from false events i f all = sym (last_still x n (n == 0) refl)
    ∙ ap (λ (es : List Event). (after_all x es).last_stop) (sym i)

-- ---- both in a turn

-- an event of sending is no Retry
sending_is_no_retry : (event : Event) → is_of_sending event ≡ true → is_retry event ≡ false
sending_is_no_retry (Svc k) o = refl
sending_is_no_retry Stop o = refl
sending_is_no_retry Retry o = cc
sending_is_no_retry _ o = refl

-- what was sent is no reason against a new beginning
might_retry_all : (x : Seen) (events : List Event) → AllAre is_of_sending events → MayCome (after_all x events) Retry → MayCome x Retry
might_retry_all x [] o m = m
might_retry_all x (event ∷ events) o m = might_retry x event (sending_is_no_retry event o.0) (might_retry_all (after x event) events o.1 m)

-- a write of the writing half that keeps its mark and its head is one of the whole side
pub sends_marked : (x : Seen) (tape : Tape) (old new : Service) (fault kept : Option ClientFault) (P Q : Past → Type 0)
    (result : Result Turn ClientFault)
    → (old.last_stop ≡ x.last_stop → new.last_stop ≡ (after_all x (events_of result)).last_stop)
    → (MayCome x Retry → new.writer.head ≡ old.writer.head)
    → Sends x tape (λ head x came taken. HasSent head x came taken old.writer) (λ head x came taken. HasSent head x came taken new.writer)
    fault kept (NothingDue x new.writer) P Q result
    → Sends x tape (λ head x came taken. ServiceSent head x came taken old) (λ head x came taken. ServiceSent head x came taken new) fault
    kept (NothingDue x new.writer) P Q result
sends_marked x tape old new fault kept P Q result mark same s = record {
  delta = s.delta;
  wire = s.wire;
  only = s.only;
  legal = s.legal;
  goes_on = λ head came taken f h. record {
    sent = s.goes_on head came taken f h.sent;
    kept = λ m. let before = might_retry_all x (events_of result) s.only m in same before ∙ h.kept before;
    last_stop = mark h.last_stop;
  };
  waiting = s.waiting;
  fault = s.fault;
}

-- a read of the reading half that keeps the mark of an answered preview is one of the whole side
pub hears_marked : (x : Seen) (old new : Service) (fault kept : Option ClientFault) (rests all_framed : Type 0) (P Q : Past → Type 0)
    (out : List ℕ) (result : Result Turn ClientFault)
    → (old.answered ≡ is_answered x → new.answered ≡ is_answered (after_all x (events_of result)))
    → Hears x (λ x adapted read. SideHeard x adapted read old.replies) (λ x adapted read. SideHeard x adapted read new.replies) fault kept
    rests all_framed P Q out result
    → Hears x (λ x adapted read. ServiceHeard x adapted read old) (λ x adapted read. ServiceHeard x adapted read new) fault kept rests
    all_framed P Q out result
hears_marked x old new fault kept rests all_framed P Q out result mark s = record {
  delta = s.delta;
  wire = s.wire;
  only = s.only;
  count = s.count;
  framed = s.framed;
  legal = s.legal;
  goes_on = λ adapted read h. record { heard = s.goes_on adapted read h.heard; answered = mark h.answered };
  waiting = s.waiting;
  fault = s.fault;
}
