-- Read turns, by what the wire gave.
use Rattle.std.proofs.Common.{◌≡◌, ◌≢◌, ℕ, ◌+◌, ◌<◌, ◌≤◌, ◌⊎◌, ◌||◌, inl, inr, Bool, true, false, List, [], ◌++◌, length, take, refl, ap}
use Rattle.std.proofs.Common.{sym, subst, ◌∙◌, append-nil, arith, Option, Some, None, Result, Ok, Err}
use Rattle.std.proofs.Math.Seq.{take-length}
use Rattle.trace_core.specs.declared.history.Event.{Event}
use Rattle.wire_kit.specs.Past.{Past, Gave, IsGiven, ReadsAtMostOnce, after_ask}
use Rattle.trace_core.specs.Turns.{in_sum, after_all}
use Rattle.http_side.specs.Body.{is_over}
use Rattle.http_relay.specs.Source.{Agrees, BodyReads, TellsEnd, IsCutShort, MustWait, Refuses}
use Rattle.wire_kit.specs.Past.{IsLater}
use Rattle.wire_kit.specs.declared.wire.Got.{Got}
use Rattle.wire_kit.specs.declared.wire.Got.TheVariants as got
use Rattle.adapt_sides.specs.Turns.{HasReason, OfRelayWire, SaysWaiting, Remembers, ReadsBody, events_of, waits_of}
use Rattle.http_relay.specs.Reading.{SideRead, SideReads, Rests, HasFramed, IsOver, IsCause, IsReadDue, ReadsWhereDue, FitsGot, ReadTurn}
use Rattle.http_relay.specs.Reading.{says_ended}
use Rattle.adapt_sides.specs.Filling.{IsFilled}
use Rattle.adapt_sides.specs.declared.fault.RelayFault.{RelayFault}
use Rattle.adapt_sides.specs.declared.fault.RelayFault.TheVariants.{Closed, Device, NoMemory}
use Rattle.adapt_sides.specs.declared.filling.Filled.TheVariants as filled
use Rattle.http_relay.specs.declared.side.SourceSide.{SourceSide}
use Rattle.http_relay.specs.declared.source_body.SourceBody.{SourceBody}
use Rattle.adapt_sides.specs.declared.turn.Turn.{Turn}
use Rattle.http_relay.proofs.Sides.{SameMessage, framed_raw, filled_more, side_then}

-- the same side but for its raw bytes
pub record SameSide (old new : SourceSide) : Type 0 where
  pub asks : new.asks ≡ old.asks
  pub head : new.head ≡ old.head
  pub body : new.body ≡ old.body

-- a past is reached from itself with nothing read and nothing taken
later_none : (p : Past) → IsLater p [] [] p
later_none p = record {
  read = sym (append-nil p.read);
  out = sym (append-nil p.taken);
  write_waits = omega arith;
  ends = omega arith;
  read_waits = omega arith;
  faults = omega arith;
}

-- a turn that doesn't read
pub none_read : (P : Past → Type 0) → ReadsAtMostOnce P P [] None
none_read P = record { each = λ p b. b; fits = refl }

-- a turn that reads once, and gets bytes
pub bytes_read : (P Q : Past → Type 0) (given : List ℕ) → 0 < length given → Gave P Q given
    → ReadsAtMostOnce P Q given (Some (got.Bytes (length given)))
bytes_read P Q given some g = record {
  each = λ p b.
      subst (λ (t : List ℕ). Q (record {
        read = p.read ++ t;
        taken = p.taken;
        ends = p.ends;
        read_waits = p.read_waits;
        write_waits = p.write_waits;
        faults = p.faults;
        reads = p.reads + 1;
        writes = p.writes;
      })) (sym (take-length given)) (g p b);
  fits = (refl, some);
}

-- nothing was framed before the read
at_once : (room : ℕ) (old : SourceSide) (answer : Got) → IsReadDue room old → ReadsWhereDue room old (Some answer)
at_once room old answer d = (old, filled_more old old [] false refl refl refl (sym (append-nil old.raw.items)), d)

-- a fault of the bytes is none of the wire
not_wire : (fault : RelayFault) (s : SourceBody) (raw : List ℕ) → Refuses fault s raw → (fault ≢ Closed) × (fault ≢ Device)
not_wire fault s raw r = ((λ e. subst (λ (f : RelayFault). Refuses f s raw) e r), (λ e. subst (λ (f : RelayFault). Refuses f s raw) e r))

-- a turn that has an event or bytes, and doesn't wait, says so
says_spoke : (t : Turn) (delta : List ℕ) → t.waiting ≡ false → (t.events.items ≡ [] → delta ≡ [] → ⊥)
    → SaysWaiting {F = RelayFault} t.events.items delta (Ok t)
says_spoke t delta w some = record {
  idle = λ h. let odd : true ≡ false = sym h ∙ w in cc;
  waits = λ u e none no_delta. absurd (some none no_delta);
}

-- a turn that waits, and has no event and no byte, says so
says_idle : (t : Turn) → t.waiting ≡ true → t.events.items ≡ [] → SaysWaiting {F = RelayFault} t.events.items [] (Ok t)
says_idle t w none = record {
  idle = λ h. (none, refl);
  waits = λ u e n d. let same : t ≡ u = cc in ap (λ (v : Turn). v.waiting) (sym same) ∙ w;
}

-- a turn that answers a fault doesn't wait, whatever bytes it got
says_err : (fault : RelayFault) (delta : List ℕ) → SaysWaiting [] delta (Err fault)
says_err fault delta = record { idle = λ h. cc; waits = λ u e n d. cc }

-- zero is at most any number
zero_le : (n : ℕ) → 0 ≤ n
zero_le n = omega arith

-- the end of a body is where it was told, or was told before
end_by : (b : Bool) (old new : SourceBody) → old.ended ≡ b → TellsEnd old new → is_over new.reader ≡ true → new.ended ≡ true
end_by true old new e t o = t.stays e
end_by false old new e t o = t.just e ∙ o

-- a body that is the same has no new end
no_end : (old new : SourceBody) (over : Type 0) → new ≡ old → old.ended ≡ false → new.ended ≡ true → over
no_end old new over e going ended = let odd : false ≡ true = sym going ∙ (ap (λ (b : SourceBody). b.ended) (sym e) ∙ ended) in cc

-- raw bytes gave events
pub turn_spoke : (room : ℕ) (old new : SourceSide) (P : Past → Type 0) (out : List ℕ) (t : Turn)
    → SideReads old new t.events.items [] (take (in_sum t.events.items) out) false → TellsEnd old.body new.body
    → in_sum t.events.items ≤ room
    → t.waiting ≡ false → (t.events.items ≡ [] → ⊥) → ReadTurn room old new P P out (Ok t)
turn_spoke room old new P out t h ends l w some = record {
  delta = [];
  answer = None;
  wire = none_read P;
  due = tt;
  fits = λ i. let odd : true ≡ false = sym i ∙ w in cc;
  count = l;
  reads = h;
  ends = λ n y. inl (sym (ends.just n) ∙ y);
  told = λ u e o. end_by old.body.ended old.body new.body refl ends o;
  waiting = says_spoke t [] w (λ none d. some none);
  waits = λ i. let odd : true ≡ false = sym i ∙ w in cc;
  cause = λ f e. cc;
}

-- nothing is to be read
pub turn_idle : (room : ℕ) (old new : SourceSide) (P : Past → Type 0) (out : List ℕ) (t : Turn)
    → SideReads old new t.events.items [] (take (in_sum t.events.items) out) false → TellsEnd old.body new.body
    → in_sum t.events.items ≤ room
    → t.waiting ≡ true → t.events.items ≡ [] → MustWait new.body new.raw.items room → Rests room new → ReadTurn room old new P P out (Ok t)
turn_idle room old new P out t h ends l w none m rests = record {
  delta = [];
  answer = None;
  wire = none_read P;
  due = tt;
  fits = λ i. rests;
  count = l;
  reads = h;
  ends = λ n y. inl (sym (ends.just n) ∙ y);
  told = λ u e o. end_by old.body.ended old.body new.body refl ends o;
  waiting = says_idle t w none;
  waits = λ i. m;
  cause = λ f e. cc;
}

-- the end of the body was reported
pub turn_over : (room : ℕ) (s : SourceSide) (P : Past → Type 0) (out : List ℕ) (t : Turn) → t.waiting ≡ true → t.events.items ≡ []
    → s.body.ended ≡ true → ReadTurn room s s P P out (Ok t)
turn_over room s P out t w none e =
    let still : SideReads s s [] [] [] false = filled_more s s [] false refl refl refl (sym (append-nil s.raw.items)) in
    let stays : TellsEnd s.body s.body = record {
      just = λ n. let odd : true ≡ false = sym e ∙ n in cc;
      stays = λ y. y;
    } in
    turn_idle room s s P out t
    (subst (λ (es : List Event). SideReads s s es [] (take (in_sum es) out) false) (sym none) still) stays
    (subst (λ (es : List Event). in_sum es ≤ room) (sym none) (zero_le room)) w none (inl e) (inl e)

-- raw bytes are refused
pub turn_refused : (room : ℕ) (old new : SourceSide) (P : Past → Type 0) (out : List ℕ) (fault : RelayFault) → new ≡ old
    → Refuses fault old.body old.raw.items → ReadTurn room old new P P out (Err fault)
turn_refused room old new P out fault e r =
    let here : Refuses fault new.body new.raw.items = subst (λ (s : SourceSide). Refuses fault s.body s.raw.items) (sym e) r in
    record {
      delta = [];
      answer = None;
      wire = none_read P;
      due = tt;
      fits = not_wire fault old.body old.raw.items r;
      count = zero_le room;
      reads = filled_more old new [] false (ap (λ (s : SourceSide). s.asks) e) (ap (λ (s : SourceSide). s.head) e)
          (ap (λ (s : SourceSide). s.body) e) (ap (λ (s : SourceSide). s.raw.items) e ∙ sym (append-nil old.raw.items));
      ends = no_end old.body new.body _ (ap (λ (s : SourceSide). s.body) e);
      told = λ u i o. cc;
      waiting = says_err fault [];
      waits = λ i. cc;
      cause = λ f i. let is : fault ≡ f = cc in subst (λ (g : RelayFault). IsCause g new) is (inr (inr (inr here)));
    }

-- bytes came, and were framed
pub turn_bytes : (room : ℕ) (old mid new : SourceSide) (P Q : Past → Type 0) (out : List ℕ) (t : Turn) → SameSide old mid
    → IsReadDue room old → IsFilled P Q old.raw.items mid.raw.items filled.Bytes
    → SideReads mid new t.events.items [] (take (in_sum t.events.items) out) false → TellsEnd mid.body new.body
    → in_sum t.events.items ≤ room → t.waiting ≡ false → ReadTurn room old new P Q out (Ok t)
turn_bytes room old mid new P Q out t m d f h tells l w =
    let both : SideReads old new t.events.items (f.0 ++ []) (take (in_sum t.events.items) out) false =
    side_then old mid new t.events.items f.0 [] (take (in_sum t.events.items) out) false
    (filled_more old mid f.0 false m.asks m.head m.body f.2) h in
    let ends : TellsEnd old.body new.body = subst (λ (b : SourceBody). TellsEnd b new.body) m.body tells in
    record {
      delta = f.0;
      answer = Some (got.Bytes (length f.0));
      wire = bytes_read P Q f.0 f.1 f.3;
      due = at_once room old (got.Bytes (length f.0)) d;
      fits = w;
      count = l;
      reads = subst (λ (d : List ℕ). SideReads old new t.events.items d (take (in_sum t.events.items) out) false) (append-nil f.0) both;
      ends = λ n y. inl (sym (ends.just n) ∙ y);
      told = λ u e o. end_by old.body.ended old.body new.body refl ends o;
      waiting = says_spoke t f.0 w (λ none d. let some = f.1 in absurd (omega (arith, some, ap (λ (x : List ℕ). length x) d)));
      waits = λ i. let odd : true ≡ false = sym i ∙ w in cc;
      cause = λ g e. cc;
    }

-- bytes came, and are refused
pub turn_bytes_refused : (room : ℕ) (old mid new : SourceSide) (P Q : Past → Type 0) (out : List ℕ) (fault : RelayFault) → SameSide old mid
    → new ≡ mid → IsReadDue room old → IsFilled P Q old.raw.items mid.raw.items filled.Bytes
    → Refuses fault mid.body mid.raw.items → ReadTurn room old new P Q out (Err fault)
turn_bytes_refused room old mid new P Q out fault m e d f r =
    let here : Refuses fault new.body new.raw.items = subst (λ (s : SourceSide). Refuses fault s.body s.raw.items) (sym e) r in
    record {
      delta = f.0;
      answer = Some (got.Bytes (length f.0));
      wire = bytes_read P Q f.0 f.1 f.3;
      due = at_once room old (got.Bytes (length f.0)) d;
      fits = not_wire fault mid.body mid.raw.items r;
      count = zero_le room;
      reads = subst (λ (s : SourceSide). SideReads old s [] f.0 [] false) (sym e) (filled_more old mid f.0 false m.asks m.head m.body f.2);
      ends = no_end old.body new.body _ (ap (λ (s : SourceSide). s.body) e ∙ m.body);
      told = λ u i o. cc;
      waiting = says_err fault f.0;
      waits = λ i. cc;
      cause = λ g i. let is : fault ≡ g = cc in subst (λ (h : RelayFault). IsCause h new) is (inr (inr (inr here)));
    }

-- the wire waits
pub turn_waited : (room : ℕ) (old new : SourceSide) (P Q : Past → Type 0) (out : List ℕ) (t : Turn) → SameSide old new → IsReadDue room old
    → IsFilled P Q old.raw.items new.raw.items filled.Wait
    → t.events.items ≡ [] → t.waiting ≡ true → ReadTurn room old new P Q out (Ok t)
turn_waited room old new P Q out t m d f none w =
    let still : SideReads old new [] [] [] false = filled_more old new [] false m.asks m.head m.body
    (f.0 ∙ sym (append-nil old.raw.items)) in
    record {
      delta = [];
      answer = Some got.Wait;
      wire = record { each = f.1; fits = refl };
      due = at_once room old got.Wait d;
      fits = w;
      count = subst (λ (es : List Event). in_sum es ≤ room) (sym none) (zero_le room);
      reads = subst (λ (es : List Event). SideReads old new es [] (take (in_sum es) out) false) (sym none) still;
      ends = no_end old.body new.body _ m.body;
      told = λ u e o. let odd : false ≡ true = sym d.not_over ∙ (ap (λ (b : SourceBody). is_over b.reader) (sym m.body) ∙ o) in cc;
      waiting = says_idle t w none;
      waits = λ i. inr (inl (f.0 ∙ d.none_kept));
      cause = λ g e. cc;
    }

-- the connection was closed at the end of the body
pub turn_end : (room : ℕ) (old new : SourceSide) (P Q : Past → Type 0) (out : List ℕ) (t : Turn) → SameMessage old new → IsReadDue room old
    → IsFilled P Q old.raw.items new.raw.items filled.Ended
    → BodyReads old.body new.body t.events.items [] [] true → new.body.ended ≡ true → in_sum t.events.items ≡ 0 → (t.events.items ≡ [] → ⊥)
    → t.waiting ≡ false → ReadTurn room old new P Q out (Ok t)
turn_end room old new P Q out t m d f b over zero some w =
    let heard : SideReads old new t.events.items [] [] true = framed_raw old new t.events.items 0 [] true m b f.0 in
    record {
      delta = [];
      answer = Some got.Ended;
      wire = record { each = f.1; fits = refl };
      due = at_once room old got.Ended d;
      fits = w;
      count = omega (arith, zero);
      reads = subst (λ (k : ℕ). SideReads old new t.events.items [] (take k out) true) (sym zero) heard;
      ends = λ n y. inr refl;
      told = λ u e o. over;
      waiting = says_spoke t [] w (λ none d. some none);
      waits = λ i. let odd : true ≡ false = sym i ∙ w in cc;
      cause = λ g e. cc;
    }

-- the connection was closed within the message
pub turn_ended : (room : ℕ) (old new : SourceSide) (P Q : Past → Type 0) (out : List ℕ) (fault : RelayFault) → SameSide old new
    → IsReadDue room old → IsFilled P Q old.raw.items new.raw.items filled.Ended
    → Refuses fault old.body [] ⊎ ((fault ≡ Closed) × IsCutShort old.body) → ReadTurn room old new P Q out (Err fault)
turn_ended room old new P Q out fault m d f r =
    let not_device : fault ≡ Device → ⊥ = λ e. elim r [
      | inl h ↦ (not_wire fault old.body [] h).1 e
      | inr h ↦
          (let odd : Closed ≡ Device = sym h.0 ∙ e in cc)
    ] in
    let here : IsCause fault new = elim r [
      | inl h ↦ inr (inr (inr (subst (λ (t : List ℕ). Refuses fault new.body t) (sym (f.0 ∙ d.none_kept))
          (subst (λ (b : SourceBody). Refuses fault b []) (sym m.body) h))))
      | inr h ↦ inl (h.0, subst (λ (b : SourceBody). IsCutShort b) (sym m.body) h.1)
    ] in
    record {
      delta = [];
      answer = Some got.Ended;
      wire = record { each = f.1; fits = refl };
      due = at_once room old got.Ended d;
      fits = not_device;
      count = zero_le room;
      reads = filled_more old new [] true m.asks m.head m.body (f.0 ∙ sym (append-nil old.raw.items));
      ends = no_end old.body new.body _ m.body;
      told = λ u i o. cc;
      waiting = says_err fault [];
      waits = λ i. cc;
      cause = λ g i. let is : fault ≡ g = cc in subst (λ (h : RelayFault). IsCause h new) is here;
    }

-- the wire failed
pub turn_failed : (room : ℕ) (old new : SourceSide) (P Q : Past → Type 0) (out : List ℕ) → SameSide old new → IsReadDue room old
    → IsFilled P Q old.raw.items new.raw.items filled.Failed → ReadTurn room old new P Q out (Err Device)
turn_failed room old new P Q out m d f = record {
  delta = [];
  answer = Some got.Fault;
  wire = record { each = f.1; fits = refl };
  due = at_once room old got.Fault d;
  fits = refl;
  count = zero_le room;
  reads = filled_more old new [] false m.asks m.head m.body (f.0 ∙ sym (append-nil old.raw.items));
  ends = no_end old.body new.body _ m.body;
  told = λ u i o. cc;
  waiting = says_err Device [];
  waits = λ i. cc;
  cause = λ g i. let is : Device ≡ g = cc in inr (inl (sym is));
}

-- there is no memory for bytes
pub turn_full : (room : ℕ) (old new : SourceSide) (P Q : Past → Type 0) (out : List ℕ) → SameSide old new
    → IsFilled P Q old.raw.items new.raw.items filled.NoMemory → ReadTurn room old new P Q out (Err NoMemory)
turn_full room old new P Q out m f = record {
  delta = [];
  answer = None;
  wire = record { each = f.1; fits = refl };
  due = tt;
  fits = ((λ e. cc), (λ e. cc));
  count = zero_le room;
  reads = filled_more old new [] false m.asks m.head m.body (f.0 ∙ sym (append-nil old.raw.items));
  ends = no_end old.body new.body _ m.body;
  told = λ u i o. cc;
  waiting = says_err NoMemory [];
  waits = λ i. cc;
  cause = λ g i. let is : NoMemory ≡ g = cc in inr (inr (inl (sym is)));
}

-- a read that is due once raw bytes were framed without an event is due before that
due_behind : (room : ℕ) (old mid : SourceSide) (answer : Option Got) → SideReads old mid [] [] [] false → ReadsWhereDue room mid answer
    → ReadsWhereDue room old answer
due_behind room old mid None h d = tt
due_behind room old mid (Some answer) h d = (d.0, side_then old mid d.0 [] [] [] [] false h d.1, d.2)

-- raw bytes gave no event, and then the wire was read
pub turn_behind : (room : ℕ) (old mid new : SourceSide) (P Q : Past → Type 0) (out : List ℕ) (result : Result Turn RelayFault)
    → SideReads old mid [] [] [] false → mid.body.ended ≡ false → ReadTurn room mid new P Q out result
    → ReadTurn room old new P Q out result
turn_behind room old mid new P Q out result h going t = record {
  delta = t.delta;
  answer = t.answer;
  wire = t.wire;
  due = due_behind room old mid t.answer h t.due;
  fits = t.fits;
  count = t.count;
  reads = side_then old mid new (events_of result) [] t.delta (take (in_sum (events_of result)) out) (says_ended t.answer) h t.reads;
  ends = λ n y. t.ends going y;
  told = t.told;
  waiting = t.waiting;
  waits = t.waits;
  cause = t.cause;
}

-- a result that fits the wire's answer still does so in a side with the same body
fits_same : (room : ℕ) (mid new : SourceSide) (answer : Option Got) (result : Result Turn RelayFault) → new.body ≡ mid.body
    → FitsGot room mid answer result → FitsGot room new answer result
fits_same room mid new None (Ok turn) e f = λ w. subst (λ (b : SourceBody). (b.ended ≡ true) ⊎ (room ≡ 0)) (sym e) (f w)
fits_same room mid new None (Err fault) e f = f
fits_same room mid new (Some (got.Bytes n)) (Ok turn) e f = f
fits_same room mid new (Some (got.Bytes n)) (Err fault) e f = f
fits_same room mid new (Some got.Ended) (Ok turn) e f = f
fits_same room mid new (Some got.Ended) (Err fault) e f = f
fits_same room mid new (Some got.Wait) (Ok turn) e f = f
fits_same room mid new (Some got.Wait) (Err fault) e f = f
fits_same room mid new (Some got.Fault) result e f = f

-- the same, but for the fault that is kept
pub turn_kept : (room : ℕ) (old mid new : SourceSide) (P Q : Past → Type 0) (out : List ℕ) (result : Result Turn RelayFault)
    → SameSide mid new → new.raw.items ≡ mid.raw.items → ReadTurn room old mid P Q out result
    → ReadTurn room old new P Q out result
turn_kept room old mid new P Q out result m r t =
    let k : SideReads mid new [] [] [] false = filled_more mid new [] false m.asks m.head m.body (r ∙ sym (append-nil mid.raw.items)) in
    let es = events_of result in
    let part = take (in_sum (events_of result)) out in
    record {
      delta = t.delta;
      answer = t.answer;
      wire = t.wire;
      due = t.due;
      fits = fits_same room mid new t.answer result m.body t.fits;
      count = t.count;
      reads = record {
        only = t.reads.only;
        legal = λ x a c. let one = t.reads.legal x a c in (one.0, subst (λ (b : SourceBody). Agrees (after_all x es) b) (sym m.body) one.1);
        reads = λ x body read closed s.
            let shut = says_ended t.answer || closed in
            let two : SideRead (after_all x es) ((body ++ part) ++ []) ((read ++ t.delta) ++ []) shut new =
            k.reads (after_all x es) (body ++ part) (read ++ t.delta) shut (t.reads.reads x body read closed s) in
            subst (λ (d : List ℕ). SideRead (after_all x es) d (read ++ t.delta) shut new) (append-nil (body ++ part))
            (subst (λ (d : List ℕ). SideRead (after_all x es) ((body ++ part) ++ []) d shut new) (append-nil (read ++ t.delta)) two);
      };
      ends = subst (λ (b : SourceBody). old.body.ended ≡ false → b.ended ≡ true → (is_over b.reader ≡ true) ⊎ (says_ended t.answer ≡ true))
          (sym m.body) t.ends;
      told = subst (λ (b : SourceBody). (turn : Turn) → result ≡ Ok turn → is_over b.reader ≡ true → b.ended ≡ true) (sym m.body) t.told;
      waiting = t.waiting;
      waits = λ w. subst (λ (b : SourceBody). MustWait b new.raw.items room) (sym m.body)
          (subst (λ (i : List ℕ). MustWait mid.body i room) (sym r) (t.waits w));
      cause = λ f e. subst (λ (b : SourceBody). ((f ≡ Closed) × IsCutShort b)
          ⊎ ((f ≡ Device) ⊎ ((f ≡ NoMemory) ⊎ Refuses f b new.raw.items))) (sym m.body)
          (subst (λ (i : List ℕ). ((f ≡ Closed) × IsCutShort mid.body) ⊎ ((f ≡ Device) ⊎ ((f ≡ NoMemory) ⊎ Refuses f mid.body i))) (sym r)
          (t.cause f e));
    }

-- the wire has given these bytes since
later_given : (p : Past) (given : List ℕ) (answer : Option Got) → IsGiven given answer → IsLater p given [] (after_ask p given answer)
later_given p given None e = subst (λ (t : List ℕ). IsLater p t [] p) (sym e) (later_none p)
later_given p given (Some (got.Bytes n)) f =
    let whole : take n given ≡ given = ap (λ (k : ℕ). take k given) f.0 ∙ take-length given in
    record {
      read = ap (λ (t : List ℕ). p.read ++ t) whole;
      out = sym (append-nil p.taken);
      ends = omega arith;
      read_waits = omega arith;
      write_waits = omega arith;
      faults = omega arith;
    }
later_given p given (Some got.Ended) e = record {
  read = sym (ap (λ (t : List ℕ). p.read ++ t) e ∙ append-nil p.read);
  out = sym (append-nil p.taken);
  ends = omega arith;
  read_waits = omega arith;
  write_waits = omega arith;
  faults = omega arith;
}
later_given p given (Some got.Wait) e = record {
  read = sym (ap (λ (t : List ℕ). p.read ++ t) e ∙ append-nil p.read);
  out = sym (append-nil p.taken);
  ends = omega arith;
  read_waits = omega arith;
  write_waits = omega arith;
  faults = omega arith;
}
later_given p given (Some got.Fault) e = record {
  read = sym (ap (λ (t : List ℕ). p.read ++ t) e ∙ append-nil p.read);
  out = sym (append-nil p.taken);
  ends = omega arith;
  read_waits = omega arith;
  write_waits = omega arith;
  faults = omega arith;
}

-- a refusal doesn't wait
never_waits : (result : Result Turn RelayFault) (g : RelayFault) → result ≡ Err g → waits_of result ≡ true → ⊥
never_waits result g e h = let odd : false ≡ true = sym (ap (λ (r : Result Turn RelayFault). waits_of r) e) ∙ h in cc

-- why it waits, or failed
reason : (room : ℕ) (new : SourceSide) (p : Past) (given : List ℕ) (answer : Option Got) (fault : Option RelayFault)
    (result : Result Turn RelayFault) → FitsGot room new answer result
    → HasReason OfRelayWire p (after_ask p given answer) fault (Rests room new) (λ past. past.read_waits) result
reason room new p given None fault (Ok turn) f = record { failed = λ h e n. cc; waiting = λ h. inl (f h) }
reason room new p given None fault (Err g) f = record {
  failed = λ h e n. let is : g ≡ h = cc in
      ((λ d. absurd (f.1 (is ∙ d))), (λ c. absurd (f.0 (is ∙ c))));
  waiting = λ h. cc;
}
reason room new p given (Some (got.Bytes n)) fault (Ok turn) f =
    record { failed = λ h e n. cc; waiting = λ h. let odd : true ≡ false = sym h ∙ f in cc }
reason room new p given (Some (got.Bytes n)) fault (Err g) f =
    record { failed = λ h e n. let is : g ≡ h = cc in ((λ d. absurd (f.1 (is ∙ d))), (λ c. absurd (f.0 (is ∙ c)))); waiting = λ h. cc }
reason room new p given (Some got.Ended) fault (Ok turn) f =
    record { failed = λ h e n. cc; waiting = λ h. let odd : true ≡ false = sym h ∙ f in cc }
reason room new p given (Some got.Ended) fault (Err g) f =
    record { failed = λ h e n. let is : g ≡ h = cc in ((λ d. absurd (f (is ∙ d))), (λ c. omega arith)); waiting = λ h. cc }
reason room new p given (Some got.Wait) fault (Ok turn) f = record { failed = λ h e n. cc; waiting = λ h. inr (omega arith) }
reason room new p given (Some got.Wait) fault (Err g) f = absurd f
reason room new p given (Some got.Fault) fault result f = record {
  failed = λ h e n. (
    (λ d. omega arith),
    (λ c. let odd : Closed ≡ Device = sym c ∙ (let same : Err h ≡ Err Device = sym e ∙ f in cc) in
        cc),
  );
  waiting = λ h. absurd (never_waits result Device f h);
}

-- the wire's count of its ends rose
ended_later : (p : Past) (given : List ℕ) (answer : Option Got) → says_ended answer ≡ true → p.ends < (after_ask p given answer).ends
ended_later p given None e = cc
ended_later p given (Some (got.Bytes n)) e = cc
ended_later p given (Some got.Ended) e = omega arith
ended_later p given (Some got.Wait) e = cc
ended_later p given (Some got.Fault) e = cc

-- so it is what a transaction asks of a source
pub as_source : (room : ℕ) (old new : SourceSide) (P Q : Past → Type 0) (out : List ℕ) (result : Result Turn RelayFault) → length out ≡ room
    → Remembers old.fault new.fault result → ReadTurn room old new P Q out result
    → ReadsBody (λ x body read. SideRead x body read.bytes read.ended old) (λ x body read. SideRead x body read.bytes read.ended new)
    (λ x. Agrees x old.body) (λ x. Agrees x new.body) old.fault new.fault (Rests room new) (HasFramed room new) (IsOver new) P Q out
    result
as_source room old new P Q out result l k t = record {
  delta = record { bytes = t.delta; ended = says_ended t.answer };
  wire = λ p b. (
    after_ask p t.delta t.answer,
    t.wire.each p b,
    later_given p t.delta t.answer t.wire.fits,
    reason room new p t.delta t.answer old.fault result t.fits,
    ended_later p t.delta t.answer,
  );
  only = t.reads.only;
  count = omega (arith, l, t.count);
  framed = t.waits;
  legal = t.reads.legal;
  ends = λ x a c n y. t.ends (sym a.ended ∙ n) (sym (t.reads.legal x a c).1.ended ∙ y);
  told = λ turn e o x a. a.ended ∙ t.told turn e o;
  goes_on = λ x body read s c. t.reads.reads x body read.bytes read.ended s;
  waiting = t.waiting;
  fault = k;
}

-- a fault is answered again, and nothing else is done
pub source_again : (room : ℕ) (s : SourceSide) (P : Past → Type 0) (out : List ℕ) (fault : RelayFault) → s.fault ≡ Some fault
    → ReadsBody (λ x body read. SideRead x body read.bytes read.ended s) (λ x body read. SideRead x body read.bytes read.ended s)
    (λ x. Agrees x s.body) (λ x. Agrees x s.body) s.fault s.fault (Rests room s) (HasFramed room s) (IsOver s) P P out (Err fault)
source_again room s P out fault f =
    let k : SideReads s s [] [] [] false = filled_more s s [] false refl refl refl (sym (append-nil s.raw.items)) in
    record {
      delta = record { bytes = []; ended = false };
      wire = λ p b. (
        p,
        b,
        later_none p,
        record { failed = λ h e n. (let odd : Some fault ≡ None = sym f ∙ n in cc); waiting = λ w. cc },
        λ e. cc,
      );
      only = tt;
      count = zero_le (length out);
      framed = λ w. cc;
      legal = k.legal;
      ends = λ x a c n y. let odd : true ≡ false = sym y ∙ n in cc;
      told = λ turn e o x a. cc;
      goes_on = λ x body read h c. k.reads x body read.bytes read.ended h;
      waiting = says_err fault [];
      fault = record {
        sound = λ t e. cc;
        again = λ g e. (let is : Some fault ≡ Some g = sym f ∙ e in cc);
        stays = λ g e. (let is : fault ≡ g = cc in f ∙ ap (λ (h : RelayFault). Some h) is);
      };
    }
