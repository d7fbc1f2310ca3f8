-- Read turns, by what the wire gave.
use Rattle.std.proofs.Common.{◌≡◌, ◌≢◌, ℕ, ◌+◌, ◌<◌, ◌≤◌, inl, inr, Bool, true, false, List, [], ◌∷◌, ◌++◌, length, take, refl, ap, sym}
use Rattle.std.proofs.Common.{subst, ◌∙◌, append-nil, arith, Option, Some, None, Result, Ok, Err}
use Rattle.std.proofs.Math.Seq.{take-length}
use Rattle.trace_core.specs.declared.history.Event.{Event}
use Rattle.trace_core.specs.declared.history.Event.TheVariants.{Heard}
use Rattle.trace_core.specs.declared.history.Point.{Point}
use Rattle.trace_core.specs.declared.history.Seen.{Seen}
use Rattle.wire_kit.specs.Past.{Past, Gave, ReadsAtMostOnce}
use Rattle.wire_kit.specs.declared.wire.Got.{Got}
use Rattle.wire_kit.specs.declared.wire.Got.TheVariants as got
use Rattle.icap_client.specs.Events.{MayCome, ad_sum}
use Rattle.icap_client.specs.Heard.{Reader}
use Rattle.icap_client.specs.HeadFront.{HasToWait}
use Rattle.icap_client.specs.Refused.{Refuses}
use Rattle.icap_client.specs.Reading.{ReadSide, GivesBack, SideHears, MayRead, NothingToRead, IsReadDue, ReadsWhereDue, FitsGot, IsCause}
use Rattle.icap_client.specs.Reading.{CameOf, ReadTurn}
use Rattle.adapt_sides.specs.Filling.{IsFilled}
use Rattle.adapt_sides.specs.declared.fault.ClientFault.{ClientFault}
use Rattle.adapt_sides.specs.declared.fault.ClientFault.TheVariants.{Closed, Device, NoMemory, NotLegal}
use Rattle.adapt_sides.specs.declared.filling.Filled.TheVariants as filled
use Rattle.adapt_sides.specs.declared.turn.Turn.{Turn}
use Rattle.icap_client.specs.declared.stage.Stage.{Stage}
use Rattle.icap_client.specs.declared.stage.Stage.TheVariants.{Replies, Head, Body, Over}
use Rattle.icap_client.proofs.Sides.{filled_more, filled_first, side_then, other_fault}

-- bytes are never refused as Closed or Device

-- no bytes are refused as Closed
not_closed : (x : Seen) (point : Point) (stage : Stage) (raw : List ℕ) → Refuses Closed x point stage raw → ⊥
not_closed x point Replies raw (inl h) = h
not_closed x point Replies raw (inr h) = h.refuses
not_closed x point (Head layout) raw h = h
not_closed x point (Body chunks) raw h = h
not_closed x point Over raw h = h

-- no bytes are refused as Device
not_device : (x : Seen) (point : Point) (stage : Stage) (raw : List ℕ) → Refuses Device x point stage raw → ⊥
not_device x point Replies raw (inl h) = h
not_device x point Replies raw (inr h) = h.refuses
not_device x point (Head layout) raw h = h
not_device x point (Body chunks) raw h = h
not_device x point Over raw h = h

-- a fault of the bytes is none of the wire
of_bytes : (x : Seen) (fault : ClientFault) (point : Point) (stage : Stage) (raw : List ℕ) → Refuses fault x point stage raw
    → (fault ≢ Closed) × (fault ≢ Device)
of_bytes x fault point stage raw r = (
  (λ e. not_closed x point stage raw (subst (λ (f : ClientFault). Refuses f x point stage raw) e r)),
  (λ e. not_device x point stage raw (subst (λ (f : ClientFault). Refuses f x point stage raw) e r)),
)

-- a turn that doesn't read
none_read : (P : Past → Type 0) → ReadsAtMostOnce P P [] None
none_read P = record { each = λ p b. b; fits = refl }

-- a turn that reads once, and gets bytes
bytes_read : (P Q : Past → Type 0) (given : List ℕ) → 0 < length given → Gave P Q given
    → ReadsAtMostOnce P Q given (Some (got.Bytes (length given)))
bytes_read P Q given some g = record {
  each = λ p b.
      subst (λ (t : List ℕ). Q (record {
        read = p.read ++ t;
        taken = p.taken;
        ends = p.ends;
        read_waits = p.read_waits;
        write_waits = p.write_waits;
        faults = p.faults;
        reads = p.reads + 1;
        writes = p.writes;
      })) (sym (take-length given)) (g p b);
  fits = (refl, some);
}

-- nothing was framed before the read
at_once : (x : Seen) (a : Bool) (room : ℕ) (old : ReadSide) (answer : Got) → IsReadDue x a room old
    → ReadsWhereDue x a room old (Some answer)
at_once x a room old answer d = (old, filled_more x old old [] (inr refl) refl (sym (append-nil old.raw)), d)

-- raw bytes gave events
pub turn_spoke : (x : Seen) (a : Bool) (room : ℕ) (old new : ReadSide) (P : Past → Type 0) (out : List ℕ) (t : Turn)
    → SideHears x old new t.events.items [] (take (ad_sum t.events.items) out) → ad_sum t.events.items ≤ room
    → t.waiting ≡ false → ¬ (t.events.items ≡ []) → ReadTurn x a room old new P P out (Ok t)
turn_spoke x a room old new P out t h l w some = record {
  given = [];
  answer = None;
  wire = none_read P;
  due = tt;
  fits = λ e. let odd : true ≡ false = sym e ∙ w in cc;
  came = (h, l, (λ e. let odd : true ≡ false = sym e ∙ w in cc), (λ e none. absurd (some none)));
}

-- nothing is to be read
pub turn_idle : (x : Seen) (a : Bool) (room : ℕ) (old new : ReadSide) (P : Past → Type 0) (out : List ℕ) (t : Turn)
    → SideHears x old new t.events.items [] (take (ad_sum t.events.items) out) → ad_sum t.events.items ≤ room
    → t.waiting ≡ true → t.events.items ≡ [] → HasToWait new.reader.stage new.raw room → NothingToRead x a room new.reader.stage
    → ReadTurn x a room old new P P out (Ok t)
turn_idle x a room old new P out t h l w none m n = record {
  given = [];
  answer = None;
  wire = none_read P;
  due = tt;
  fits = λ e. n;
  came = (h, l, (λ e. (none, refl, m)), (λ e i. let odd : true ≡ false = sym w ∙ e in cc));
}

-- raw bytes are refused
pub turn_refused : (x : Seen) (a : Bool) (room : ℕ) (old new : ReadSide) (P : Past → Type 0) (out : List ℕ) (fault : ClientFault)
    → SideHears x old new [] [] [] → Refuses fault x new.reader.point new.reader.stage new.raw
    → ReadTurn x a room old new P P out (Err fault)
turn_refused x a room old new P out fault h r = record {
  given = [];
  answer = None;
  wire = none_read P;
  due = tt;
  fits = of_bytes x fault new.reader.point new.reader.stage new.raw r;
  came = (h, inr (inr (inr (inr r))));
}

-- bytes came, and were framed
pub turn_bytes : (x : Seen) (a : Bool) (room : ℕ) (old mid new : ReadSide) (P Q : Past → Type 0) (out : List ℕ) (t : Turn) → x.heard ≡ true
    → IsReadDue x a room old → mid.reader ≡ old.reader → IsFilled P Q old.raw mid.raw filled.Bytes
    → SideHears x mid new t.events.items [] (take (ad_sum t.events.items) out) → ad_sum t.events.items ≤ room → t.waiting ≡ false
    → ReadTurn x a room old new P Q out (Ok t)
turn_bytes x a room old mid new P Q out t was d e f h l w =
    let both : SideHears x old new t.events.items (f.0 ++ []) (take (ad_sum t.events.items) out) =
    side_then x old mid new t.events.items f.0 [] (take (ad_sum t.events.items) out) (filled_more x old mid f.0 (inl was) e f.2) h in
    record {
      given = f.0;
      answer = Some (got.Bytes (length f.0));
      wire = bytes_read P Q f.0 f.1 f.3;
      due = at_once x a room old (got.Bytes (length f.0)) d;
      fits = w;
      came = (
        subst (λ (d : List ℕ). SideHears x old new t.events.items d (take (ad_sum t.events.items) out)) (append-nil f.0) both,
        l,
        (λ i. let odd : true ≡ false = sym i ∙ w in cc),
        (λ i n. f.1),
      );
    }

-- bytes came, and are refused
pub turn_bytes_refused : (x : Seen) (a : Bool) (room : ℕ) (old mid new : ReadSide) (P Q : Past → Type 0) (out : List ℕ)
    (fault : ClientFault) → x.heard ≡ true → IsReadDue x a room old → mid.reader ≡ old.reader → IsFilled P Q old.raw mid.raw filled.Bytes
    → SideHears x mid new [] [] [] → Refuses fault x new.reader.point new.reader.stage new.raw
    → ReadTurn x a room old new P Q out (Err fault)
turn_bytes_refused x a room old mid new P Q out fault was d e f h r = record {
  given = f.0;
  answer = Some (got.Bytes (length f.0));
  wire = bytes_read P Q f.0 f.1 f.3;
  due = at_once x a room old (got.Bytes (length f.0)) d;
  fits = of_bytes x fault new.reader.point new.reader.stage new.raw r;
  came = (
    subst (λ (d : List ℕ). SideHears x old new [] d []) (append-nil f.0)
        (side_then x old mid new [] f.0 [] [] (filled_more x old mid f.0 (inl was) e f.2) h),
    inr (inr (inr (inr r))),
  );
}

-- the first bytes of a reply came
pub turn_first : (x : Seen) (a : Bool) (room : ℕ) (old new : ReadSide) (P Q : Past → Type 0) (out : List ℕ) (t : Turn) → MayCome x Heard
    → IsReadDue x a room old → new.reader ≡ old.reader → IsFilled P Q old.raw new.raw filled.Bytes
    → t.events.items ≡ Heard ∷ [] → t.waiting ≡ false → ReadTurn x a room old new P Q out (Ok t)
turn_first x a room old new P Q out t may d e f is w =
    let first : SideHears x old new (Heard ∷ []) f.0 (take (ad_sum (Heard ∷ [])) out) = filled_first x old new f.0 out may f.1 e f.2 in
    let none : ad_sum (Heard ∷ []) ≤ room = omega arith in
    record {
      given = f.0;
      answer = Some (got.Bytes (length f.0));
      wire = bytes_read P Q f.0 f.1 f.3;
      due = at_once x a room old (got.Bytes (length f.0)) d;
      fits = w;
      came = (
        subst (λ (es : List Event). SideHears x old new es f.0 (take (ad_sum es) out)) (sym is) first,
        subst (λ (es : List Event). ad_sum es ≤ room) (sym is) none,
        (λ i. let odd : true ≡ false = sym i ∙ w in cc),
        (λ i n. f.1),
      );
    }

-- no byte of a reply may come
pub turn_unheard : (x : Seen) (a : Bool) (room : ℕ) (old new : ReadSide) (P : Past → Type 0) (out : List ℕ) → x.heard ≡ false → MayRead x a
    → (MayCome x Heard → ⊥) → SideHears x old new [] [] [] → ReadTurn x a room old new P P out (Err NotLegal)
turn_unheard x a room old new P out was may never h = record {
  given = [];
  answer = None;
  wire = none_read P;
  due = tt;
  fits = ((λ e. cc), (λ e. cc));
  came = (h, inr (inr (inr (inl (refl, was, may, never)))));
}

-- the wire waits
pub turn_waited : (x : Seen) (a : Bool) (room : ℕ) (old new : ReadSide) (P Q : Past → Type 0) (out : List ℕ) (t : Turn)
    → IsReadDue x a room old → new.reader ≡ old.reader → IsFilled P Q old.raw new.raw filled.Wait
    → t.events.items ≡ [] → t.waiting ≡ true → ReadTurn x a room old new P Q out (Ok t)
turn_waited x a room old new P Q out t d e f none w =
    let still : SideHears x old new [] [] [] = filled_more x old new [] (inr refl) e (f.0 ∙ sym (append-nil old.raw)) in
    let here : HasToWait new.reader.stage new.raw room =
    subst (λ (s : Stage). HasToWait s new.raw room) (ap (λ (r : Reader). r.stage) (sym e))
    (subst (λ (t : List ℕ). HasToWait old.reader.stage t room) (sym f.0) d.waits) in
    record {
      given = [];
      answer = Some got.Wait;
      wire = record { each = f.1; fits = refl };
      due = at_once x a room old got.Wait d;
      fits = w;
      came = (
        subst (λ (es : List Event). SideHears x old new es [] (take (ad_sum es) out)) (sym none) still,
        subst (λ (es : List Event). ad_sum es ≤ room) (sym none) (omega arith),
        (λ i. (none, refl, here)),
        (λ i n. let odd : true ≡ false = sym w ∙ i in cc),
      );
    }

-- the service has ended its bytes
pub turn_ended : (x : Seen) (a : Bool) (room : ℕ) (old new : ReadSide) (P Q : Past → Type 0) (out : List ℕ) → IsReadDue x a room old
    → new.reader ≡ old.reader → IsFilled P Q old.raw new.raw filled.Ended → ReadTurn x a room old new P Q out (Err Closed)
turn_ended x a room old new P Q out d e f = record {
  given = [];
  answer = Some got.Ended;
  wire = record { each = f.1; fits = refl };
  due = at_once x a room old got.Ended d;
  fits = refl;
  came = (filled_more x old new [] (inr refl) e (f.0 ∙ sym (append-nil old.raw)), inl refl);
}

-- the wire failed
pub turn_failed : (x : Seen) (a : Bool) (room : ℕ) (old new : ReadSide) (P Q : Past → Type 0) (out : List ℕ) → IsReadDue x a room old
    → new.reader ≡ old.reader → IsFilled P Q old.raw new.raw filled.Failed → ReadTurn x a room old new P Q out (Err Device)
turn_failed x a room old new P Q out d e f = record {
  given = [];
  answer = Some got.Fault;
  wire = record { each = f.1; fits = refl };
  due = at_once x a room old got.Fault d;
  fits = refl;
  came = (filled_more x old new [] (inr refl) e (f.0 ∙ sym (append-nil old.raw)), inr (inl refl));
}

-- there is no memory for bytes
pub turn_full : (x : Seen) (a : Bool) (room : ℕ) (old new : ReadSide) (P Q : Past → Type 0) (out : List ℕ) → new.reader ≡ old.reader
    → IsFilled P Q old.raw new.raw filled.NoMemory → ReadTurn x a room old new P Q out (Err NoMemory)
turn_full x a room old new P Q out e f = record {
  given = [];
  answer = None;
  wire = record { each = f.1; fits = refl };
  due = tt;
  fits = ((λ e. cc), (λ e. cc));
  came = (filled_more x old new [] (inr refl) e (f.0 ∙ sym (append-nil old.raw)), inr (inr (inl refl)));
}

-- what came of a turn after a framing without an event came of it also from before that
came_behind : (x : Seen) (a : Bool) (old mid new : ReadSide) (room : ℕ) (out delta : List ℕ) (result : Result Turn ClientFault)
    → SideHears x old mid [] [] [] → CameOf x a mid new room out delta result → CameOf x a old new room out delta result
came_behind x a old mid new room out delta (Ok t) h c =
    (side_then x old mid new t.events.items [] delta (take (ad_sum t.events.items) out) h c.0, c.1, c.2, c.3)
came_behind x a old mid new room out delta (Err fault) h c = (side_then x old mid new [] [] delta [] h c.0, c.1)

-- a read that was due after a framing without an event was due also from before that
due_behind : (x : Seen) (a : Bool) (room : ℕ) (old mid : ReadSide) (answer : Option Got) → SideHears x old mid [] [] []
    → ReadsWhereDue x a room mid answer → ReadsWhereDue x a room old answer
due_behind x a room old mid None h d = tt
due_behind x a room old mid (Some answer) h d = (d.0, side_then x old mid d.0 [] [] [] [] h d.1, d.2)

-- raw bytes gave no event, and then the wire was read
pub turn_behind : (x : Seen) (a : Bool) (room : ℕ) (old mid new : ReadSide) (P Q : Past → Type 0) (out : List ℕ)
    (result : Result Turn ClientFault) → SideHears x old mid [] [] [] → ReadTurn x a room mid new P Q out result
    → ReadTurn x a room old new P Q out result
turn_behind x a room old mid new P Q out result h t = record {
  given = t.given;
  answer = t.answer;
  wire = t.wire;
  due = due_behind x a room old mid t.answer h t.due;
  fits = t.fits;
  came = came_behind x a old mid new room out t.given result h t.came;
}

-- the reader and the raw bytes, by other names
cause_kept : (x : Seen) (a : Bool) (fault : ClientFault) (reader kept : Reader) (raw still : List ℕ) → kept ≡ reader → still ≡ raw
    → IsCause fault x a reader raw → IsCause fault x a kept still
cause_kept x a fault reader kept raw still e f c = subst (λ (r : Reader). IsCause fault x a r still) (sym e)
    (subst (λ (t : List ℕ). IsCause fault x a reader t) (sym f) c)

-- the fault is kept
turn_kept : (x : Seen) (a : Bool) (room : ℕ) (old new kept : ReadSide) (P Q : Past → Type 0) (out : List ℕ) (fault : ClientFault)
    → kept.reader ≡ new.reader → kept.raw ≡ new.raw → ReadTurn x a room old new P Q out (Err fault)
    → ReadTurn x a room old kept P Q out (Err fault)
turn_kept x a room old new kept P Q out fault e r t = record {
  given = t.given;
  answer = t.answer;
  wire = t.wire;
  due = t.due;
  fits = subst (λ (r : Reader). FitsGot x a room r.stage t.answer (Err fault)) (sym e) t.fits;
  came = (other_fault x old new kept [] t.given [] e r t.came.0, cause_kept x a fault new.reader kept.reader new.raw kept.raw e r t.came.1);
}

-- so it does where it is told by its answer
pub turn_faulted : (x : Seen) (a : Bool) (room : ℕ) (old new kept : ReadSide) (P Q : Past → Type 0) (out : List ℕ)
    (result : Result Turn ClientFault) (fault : ClientFault) → result ≡ Err fault → kept.reader ≡ new.reader → kept.raw ≡ new.raw
    → ReadTurn x a room old new P Q out result → ReadTurn x a room old kept P Q out result
turn_faulted x a room old new kept P Q out result fault is e r t =
    let failed : ReadTurn x a room old new P Q out (Err fault) =
    subst (λ (answer : Result Turn ClientFault). ReadTurn x a room old new P Q out answer) is t in
    subst (λ (answer : Result Turn ClientFault). ReadTurn x a room old kept P Q out answer) (sym is)
    (turn_kept x a room old new kept P Q out fault e r failed)

-- what came of a turn stays so if room is given back after it
came_given_back : (x : Seen) (a : Bool) (old new kept : ReadSide) (room : ℕ) (out delta : List ℕ) (result : Result Turn ClientFault)
    → GivesBack new kept → CameOf x a old new room out delta result → CameOf x a old kept room out delta result
came_given_back x a old new kept room out delta (Ok t) b c = (
  other_fault x old new kept t.events.items delta (take (ad_sum t.events.items) out) b.reader b.raw c.0,
  c.1,
  (λ w.
      let i = c.2 w in
      let at : HasToWait kept.reader.stage new.raw room = subst (λ (r : Reader). HasToWait r.stage new.raw room) (sym b.reader) i.2 in
      (i.0, i.1, subst (λ (raw : List ℕ). HasToWait kept.reader.stage raw room) (sym b.raw) at)),
  c.3,
)
came_given_back x a old new kept room out delta (Err fault) b c = (
  other_fault x old new kept [] delta [] b.reader b.raw c.0,
  cause_kept x a fault new.reader kept.reader new.raw kept.raw b.reader b.raw c.1,
)

-- room that holds no byte is given back
pub turn_given_back : (x : Seen) (a : Bool) (room : ℕ) (old new kept : ReadSide) (P Q : Past → Type 0) (out : List ℕ)
    (result : Result Turn ClientFault) → GivesBack new kept → ReadTurn x a room old new P Q out result
    → ReadTurn x a room old kept P Q out result
turn_given_back x a room old new kept P Q out result b t = record {
  given = t.given;
  answer = t.answer;
  wire = t.wire;
  due = t.due;
  fits = subst (λ (r : Reader). FitsGot x a room r.stage t.answer result) (sym b.reader) t.fits;
  came = came_given_back x a old new kept room out t.given result b t.came;
}
