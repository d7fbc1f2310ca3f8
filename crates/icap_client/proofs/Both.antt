-- Both halves' turns, as a transaction calls them.
use Rattle.std.proofs.Common.{◌≡◌, ℕ, ◌<◌, ◌≤◌, ◌⊎◌, inl, inr, Bool, true, false, List, [], ◌++◌, length, take, refl, ap, sym, subst, ◌∙◌}
use Rattle.std.proofs.Common.{append-nil, arith, Option, Some, None, IfSome, IfErr, OnOk, Result, Ok, Err}
use Rattle.std.proofs.lemmas.List.{length-take-le}
use Rattle.std.proofs.Math.Seq.{take-length}
use Rattle.trace_core.specs.declared.history.Seen.{Seen}
use Rattle.span_tape.specs.Tape.{Tape}
use Rattle.wire_kit.specs.Past.{Past, FitsPut, after_offer, delta_of, IsGiven, after_ask}
use Rattle.wire_kit.specs.declared.wire.Got.{Got}
use Rattle.wire_kit.specs.declared.wire.Got.TheVariants as got
use Rattle.wire_kit.specs.declared.wire.Put.{Put}
use Rattle.wire_kit.specs.declared.wire.Put.TheVariants as put
use Rattle.chunk_writer.specs.Writer.{Writer, offered}
use Rattle.adapt_sides.specs.declared.turn.Turn.{Turn}
use Rattle.adapt_sides.specs.declared.fault.ClientFault.{ClientFault}
use Rattle.adapt_sides.specs.declared.fault.ClientFault.TheVariants.{Closed, Device}
use Rattle.trace_core.specs.declared.history.Plan.{Plan}
use Rattle.trace_core.specs.declared.history.Point.{Point}
use Rattle.trace_core.specs.History.{seen}
use Rattle.icap_client.specs.Laws.{first_reader}
use Rattle.icap_client.specs.declared.stage.Stage.{Stage}
use Rattle.icap_client.specs.Heard.{Reader, HasHeard}
use Rattle.icap_client.proofs.Whole.{nothing_heard}
use Rattle.icap_client.specs.Events.{Follows}
use Rattle.icap_client.specs.Sending.{HasSent, Came, KeepsUnsent, NothingDue}
use Rattle.icap_client.specs.HeadFront.{HasToWait}
use Rattle.icap_client.specs.Reading.{ReadSide, SideHeard, NothingToRead, FitsGot, IsCause, CameOf, ReadTurn}
use Rattle.icap_client.specs.Turns.{WriteTurn, FitsOffer, FitsAnswer, events_of, waits_of, IsLater, SaysWaiting, Sends, Hears}
use Rattle.adapt_sides.specs.Turns.{HasReason, OfClientWire}

-- ---- writing

-- where a tape keeps what is unsent, the bytes that it follows are those that came
came_by : (x : Seen) (tape : Tape) (came : List ℕ) → KeepsUnsent x tape → Follows tape came → Came x tape came
came_by x tape came k f = record { count = sym f.end ∙ k.end; bytes = sym f.bytes }

-- a wire that was asked nothing has read and taken no further byte
later_none : (p : Past) → IsLater p [] [] p
later_none p = record {
  read = sym (append-nil p.read);
  out = sym (append-nil p.taken);
  ends = omega arith;
  read_waits = omega arith;
  write_waits = omega arith;
  faults = omega arith;
}

-- after an offer a wire has taken just what its answer says, and read nothing
later_offer : (p : Past) (bytes : List ℕ) (answer : Option Put) → IsLater p [] (delta_of bytes answer) (after_offer p bytes answer)
later_offer p bytes None = later_none p
later_offer p bytes (Some (put.Took n)) = record {
  read = sym (append-nil p.read);
  out = refl;
  ends = omega arith;
  read_waits = omega arith;
  write_waits = omega arith;
  faults = omega arith;
}
later_offer p bytes (Some put.Wait) = record {
  read = sym (append-nil p.read);
  out = sym (append-nil p.taken);
  ends = omega arith;
  read_waits = omega arith;
  write_waits = omega arith;
  faults = omega arith;
}
later_offer p bytes (Some put.Fault) = record {
  read = sym (append-nil p.read);
  out = sym (append-nil p.taken);
  ends = omega arith;
  read_waits = omega arith;
  write_waits = omega arith;
  faults = omega arith;
}

-- a turn that was told Wait, or offered nothing as nothing was due, has more write waits or nothing due
waits_by : (x : Seen) (w : Writer) (p : Past) (bytes : List ℕ) (answer : Option Put) → (answer ≡ Some put.Wait) ⊎ (answer ≡ None)
    → (answer ≡ None → NothingDue x w)
    → NothingDue x w ⊎ (p.write_waits < (after_offer p bytes answer).write_waits)
waits_by x w p bytes answer (inl e) n =
    let more : p.write_waits < (after_offer p bytes (Some put.Wait)).write_waits = omega arith in
    inr (subst (λ (a : Option Put). p.write_waits < (after_offer p bytes a).write_waits) (sym e) more)
waits_by x w p bytes answer (inr e) n = inl (n e)

-- a write that fails or waits has its reason in the wire's answer, or nothing is due
cause : (x : Seen) (w : Writer) (p : Past) (bytes : List ℕ) (answer : Option Put) (fault : Option ClientFault)
    (result : Result Turn ClientFault) → FitsOffer x w answer result
    → HasReason OfClientWire p (after_offer p bytes answer) fault (NothingDue x w) (λ past. past.write_waits) result
cause x w p bytes answer fault (Ok turn) f = record {
  failed = λ g e n. cc;
  waiting = λ h. let i = f.waiting h in waits_by x w p bytes answer i.1 (λ e. f.idle e i.0);
}
cause x w p bytes answer fault (Err g) f = record {
  failed = λ h e n.
      let is : g ≡ h = cc in
      let more : p.faults < (after_offer p bytes (Some put.Fault)).faults = omega arith in (
        (λ d. subst (λ (a : Option Put). p.faults < (after_offer p bytes a).faults) (sym f.1) more),
        (λ c. let odd : Device ≡ Closed = sym f.0 ∙ (is ∙ c) in cc),
      );
  waiting = λ h. cc;
}

-- an offer that was told Wait, or none, brings no byte onto the wire
none_out : (bytes : List ℕ) (answer : Option Put) → (answer ≡ Some put.Wait) ⊎ (answer ≡ None) → delta_of bytes answer ≡ []
none_out bytes answer (inl e) = ap (λ (a : Option Put). delta_of bytes a) e
none_out bytes answer (inr e) = ap (λ (a : Option Put). delta_of bytes a) e

-- a part of at least one byte of a text isn't empty
some_out : (bytes : List ℕ) (n : ℕ) → (1 ≤ n) × (n ≤ length bytes) → take n bytes ≡ [] → ⊥
some_out bytes n h e = let l = length-take-le n bytes h.1 in let z : length (take n bytes) ≡ 0 = ap (λ (t : List ℕ). length t) e in
    absurd (omega (arith, h.0, l, z))

-- a write turn without events or bytes on the wire waits
not_idle : (x : Seen) (w : Writer) (bytes : List ℕ) (answer : Option Put) (turn : Turn) → FitsAnswer x w answer turn
    → IfSome answer (FitsPut (length bytes)) → turn.events.items ≡ []
    → delta_of bytes answer ≡ [] → turn.waiting ≡ false → ⊥
not_idle x w bytes None turn f s e d h = f.moved h e refl
not_idle x w bytes (Some (put.Took n)) turn f s e d h = some_out bytes n s d
not_idle x w bytes (Some put.Wait) turn f s e d h = f.woke h refl
not_idle x w bytes (Some put.Fault) turn f s e d h = f.no_fault refl

-- a bit that isn't false is true
or_true : (b : Bool) → (b ≡ false → ⊥) → b ≡ true
or_true true h = refl
or_true false h = absurd (h refl)

-- a write that waits did nothing, and one that did nothing waits
says : (x : Seen) (w : Writer) (bytes : List ℕ) (answer : Option Put) (result : Result Turn ClientFault) → FitsOffer x w answer result
    → IfSome answer (FitsPut (length bytes))
    → SaysWaiting (events_of result) (delta_of bytes answer) result
says x w bytes answer (Ok turn) f s = record {
  idle = λ h. let i = f.waiting h in (i.0, none_out bytes answer i.1);
  waits = λ t e n d. let same : turn ≡ t = cc in subst (λ (u : Turn). u.waiting ≡ true) same
      (or_true turn.waiting (not_idle x w bytes answer turn f s n d));
}
says x w bytes answer (Err g) f s = record { idle = λ h. cc; waits = λ t e n d. cc }

-- a write turn of a side without a fault does what a transaction asks of a write
pub sends_by : {most : ℕ} (x : Seen) (tape : Tape) (old new : Writer) (fault kept : Option ClientFault) (P Q : Past → Type 0)
    (result : Result Turn ClientFault) → fault ≡ None → KeepsUnsent x tape
    → WriteTurn most x tape old new P Q result → ((turn : Turn) → result ≡ Ok turn → kept ≡ None)
    → ((g : ClientFault) → result ≡ Err g → kept ≡ Some g)
    → Sends x tape (λ head x came taken. HasSent head x came taken old) (λ head x came taken. HasSent head x came taken new) fault kept
    (NothingDue x new) P Q result
sends_by x tape old new fault kept P Q result none k t sound stays =
    let text = offered old tape t.next in
    record {
      delta = delta_of text t.answer;
      wire = λ p b. (
        after_offer p text t.answer,
        t.wire.each p b,
        later_offer p text t.answer,
        cause x new p text t.answer fault result t.fits,
      );
      only = t.goes_on.only;
      legal = t.goes_on.legal;
      goes_on = λ head came taken f h. t.goes_on.sent head came taken (came_by x tape came k f) h;
      waiting = says x new text t.answer result t.fits t.wire.fits;
      fault = record { sound = sound; again = λ g e. cc; stays = stays };
    }

-- after a fault nothing is done
pub sends_none : (x : Seen) (tape : Tape) (w : Writer) (fault : Option ClientFault) (g : ClientFault) (P : Past → Type 0) → fault ≡ Some g
    → Sends x tape (λ head x came taken. HasSent head x came taken w) (λ head x came taken. HasSent head x came taken w) fault fault
    (NothingDue x w) P P (Err g)
sends_none x tape w fault g P e = record {
  delta = [];
  wire = λ p b. (p, b, later_none p, record { failed = λ g i n. cc; waiting = λ h. cc });
  only = tt;
  legal = tt;
  goes_on = λ head came taken f h. subst (λ (t : List ℕ). HasSent head x came t w) (sym (append-nil taken)) h;
  waiting = record { idle = λ h. cc; waits = λ t i n d. cc };
  fault = record { sound = λ t i. cc; again = λ f i. cc; stays = λ f i. cc };
}

-- ---- reading

-- after a read a wire has given just these bytes, and taken none
later_given : (p : Past) (given : List ℕ) (answer : Option Got) → IsGiven given answer → IsLater p given [] (after_ask p given answer)
later_given p given None e = subst (λ (t : List ℕ). IsLater p t [] p) (sym e) (later_none p)
later_given p given (Some (got.Bytes n)) f =
    let whole : take n given ≡ given = ap (λ (k : ℕ). take k given) f.0 ∙ take-length given in
    record {
      read = ap (λ (t : List ℕ). p.read ++ t) whole;
      out = sym (append-nil p.taken);
      ends = omega arith;
      read_waits = omega arith;
      write_waits = omega arith;
      faults = omega arith;
    }
later_given p given (Some got.Ended) e = record {
  read = sym (ap (λ (t : List ℕ). p.read ++ t) e ∙ append-nil p.read);
  out = sym (append-nil p.taken);
  ends = omega arith;
  read_waits = omega arith;
  write_waits = omega arith;
  faults = omega arith;
}
later_given p given (Some got.Wait) e = record {
  read = sym (ap (λ (t : List ℕ). p.read ++ t) e ∙ append-nil p.read);
  out = sym (append-nil p.taken);
  ends = omega arith;
  read_waits = omega arith;
  write_waits = omega arith;
  faults = omega arith;
}
later_given p given (Some got.Fault) e = record {
  read = sym (ap (λ (t : List ℕ). p.read ++ t) e ∙ append-nil p.read);
  out = sym (append-nil p.taken);
  ends = omega arith;
  read_waits = omega arith;
  write_waits = omega arith;
  faults = omega arith;
}

-- a refusal doesn't wait
never_waits : (result : Result Turn ClientFault) (g : ClientFault) → result ≡ Err g → waits_of result ≡ true → ⊥
never_waits result g e h = let odd : false ≡ true = sym (ap (λ (r : Result Turn ClientFault). waits_of r) e) ∙ h in cc

-- a read that fails or waits has its reason in the wire's answer, or nothing is to be read
read_cause : (x : Seen) (a : Bool) (room : ℕ) (stage : Stage) (p : Past) (given : List ℕ) (answer : Option Got) (fault : Option ClientFault)
    (result : Result Turn ClientFault) → FitsGot x a room stage answer result
    → HasReason OfClientWire p (after_ask p given answer) fault (NothingToRead x a room stage) (λ past. past.read_waits) result
read_cause x a room stage p given None fault (Ok turn) f = record { failed = λ h e n. cc; waiting = λ h. inl (f h) }
read_cause x a room stage p given None fault (Err g) f =
    record { failed = λ h e n. let is : g ≡ h = cc in ((λ d. absurd (f.1 (is ∙ d))), (λ c. absurd (f.0 (is ∙ c)))); waiting = λ h. cc }
read_cause x a room stage p given (Some (got.Bytes n)) fault (Ok turn) f =
    record { failed = λ h e n. cc; waiting = λ h. let odd : true ≡ false = sym h ∙ f in cc }
read_cause x a room stage p given (Some (got.Bytes n)) fault (Err g) f =
    record { failed = λ h e n. let is : g ≡ h = cc in ((λ d. absurd (f.1 (is ∙ d))), (λ c. absurd (f.0 (is ∙ c)))); waiting = λ h. cc }
read_cause x a room stage p given (Some got.Ended) fault result f = record {
  failed = λ h e n. (
    (λ d. let odd : Device ≡ Closed = sym d ∙ (let same : Err h ≡ Err Closed = sym e ∙ f in cc) in cc),
    (λ c. omega arith),
  );
  waiting = λ h. absurd (never_waits result Closed f h);
}
read_cause x a room stage p given (Some got.Wait) fault (Ok turn) f = record { failed = λ h e n. cc; waiting = λ h. inr (omega arith) }
read_cause x a room stage p given (Some got.Wait) fault (Err g) f = absurd f
read_cause x a room stage p given (Some got.Fault) fault result f = record {
  failed = λ h e n. (
    (λ d. omega arith),
    (λ c. let odd : Closed ≡ Device = sym c ∙ (let same : Err h ≡ Err Device = sym e ∙ f in cc) in
        cc),
  );
  waiting = λ h. absurd (never_waits result Device f h);
}

-- a write's first fault is the wire's
pub offer_fails : (x : Seen) (w : Writer) (answer : Option Put) (result : Result Turn ClientFault) → FitsOffer x w answer result
    → (fault : ClientFault) → result ≡ Err fault → fault ≡ Device
offer_fails x w answer (Ok turn) f fault e = cc
offer_fails x w answer (Err g) f fault e = let is : g ≡ fault = cc in sym is ∙ f.0

-- a read's first fault has its cause
pub came_cause : (x : Seen) (a : Bool) (old new : ReadSide) (room : ℕ) (out delta : List ℕ) (result : Result Turn ClientFault)
    → CameOf x a old new room out delta result → (fault : ClientFault) → result ≡ Err fault → IsCause fault x a new.reader new.raw
came_cause x a old new room out delta (Ok turn) c fault e = cc
came_cause x a old new room out delta (Err g) c fault e = let is : g ≡ fault = cc in
    subst (λ (k : ClientFault). IsCause k x a new.reader new.raw) is c.1

-- a read that waits did nothing, and one that did nothing waits
read_says : (x : Seen) (a : Bool) (old new : ReadSide) (room : ℕ) (out delta : List ℕ) (result : Result Turn ClientFault)
    → CameOf x a old new room out delta result → SaysWaiting (events_of result) delta result
read_says x a old new room out delta (Ok turn) c = record {
  idle = λ h. let w = c.2 h in (w.0, w.1);
  waits = λ t e n d.
      let same : turn ≡ t = cc in
      let moved : turn.waiting ≡ false → ⊥ = λ h. let some : 0 < length delta = c.3 h n in let z : length delta ≡ 0 =
      ap (λ (l : List ℕ). length l) d in absurd (omega (arith, some, z)) in
      subst (λ (u : Turn). u.waiting ≡ true) same (or_true turn.waiting moved);
}
read_says x a old new room out delta (Err g) c = record { idle = λ h. cc; waits = λ t e n d. cc }

-- a read turn of a side without a fault does what a transaction asks of a read
pub hears_by : (x : Seen) (a : Bool) (room : ℕ) (old new : ReadSide) (P Q : Past → Type 0) (out : List ℕ) (result : Result Turn ClientFault)
    → old.fault ≡ None → room ≡ length out
    → ReadTurn x a room old new P Q out result → OnOk result (new.fault ≡ None) → ((g : ClientFault) → result ≡ Err g → new.fault ≡ Some g)
    → Hears x (λ x adapted read. SideHeard x adapted read old) (λ x adapted read. SideHeard x adapted read new) old.fault new.fault
    (NothingToRead x a room new.reader.stage) (HasToWait new.reader.stage new.raw room) P Q out result
hears_by x a room old new P Q out (Ok turn) none long t sound stays = record {
  delta = t.given;
  wire = λ p b. (
    after_ask p t.given t.answer,
    t.wire.each p b,
    later_given p t.given t.answer t.wire.fits,
    read_cause x a room new.reader.stage p t.given t.answer old.fault (Ok turn) t.fits,
  );
  only = t.came.0.only;
  count = omega (arith, t.came.1, long);
  framed = λ h. (t.came.2 h).2;
  legal = t.came.0.legal;
  goes_on = t.came.0.heard;
  waiting = read_says x a old new room out t.given (Ok turn) t.came;
  fault = record { sound = λ s e. sound; again = λ g e. cc; stays = stays };
}
hears_by x a room old new P Q out (Err g) none long t sound stays = record {
  delta = t.given;
  wire = λ p b. (
    after_ask p t.given t.answer,
    t.wire.each p b,
    later_given p t.given t.answer t.wire.fits,
    read_cause x a room new.reader.stage p t.given t.answer old.fault (Err g) t.fits,
  );
  only = tt;
  count = omega arith;
  framed = λ h. cc;
  legal = tt;
  goes_on = t.came.0.heard;
  waiting = read_says x a old new room out t.given (Err g) t.came;
  fault = record { sound = λ s e. cc; again = λ f e. cc; stays = stays };
}

-- after a fault a read hears nothing, answers the fault again and keeps it
pub hears_none : (x : Seen) (s : ReadSide) (rests all_framed : Type 0) (g : ClientFault) (P Q : Past → Type 0) (out : List ℕ)
    → s.fault ≡ Some g → ((p : Past) → P p → Q p)
    → Hears x (λ x adapted read. SideHeard x adapted read s) (λ x adapted read. SideHeard x adapted read s) s.fault s.fault rests all_framed
    P Q out (Err g)
hears_none x s rests all_framed g P Q out e w = record {
  delta = [];
  wire = λ p b. (p, w p b, later_none p, record { failed = λ g i n. cc; waiting = λ h. cc });
  only = tt;
  count = omega arith;
  framed = λ h. cc;
  legal = tt;
  goes_on = λ adapted read h.
      subst (λ (t : List ℕ). SideHeard x t (read ++ []) s) (sym (append-nil adapted))
      (subst (λ (t : List ℕ). SideHeard x adapted t s) (sym (append-nil read)) h);
  waiting = record { idle = λ h. cc; waits = λ t i n d. cc };
  fault = record { sound = λ t i. cc; again = λ f i. cc; stays = λ f i. cc };
}

-- the fault that a result has is the one that is kept
stays_by : (k : Option ClientFault) (result : Result Turn ClientFault) → IfErr result (λ g. k ≡ Some g) → (g : ClientFault) → result ≡ Err g
    → k ≡ Some g
stays_by k (Ok t) s g e = cc
stays_by k (Err f) s g e = let same : f ≡ g = cc in s ∙ ap Some same

-- a read does what a transaction asks, whichever fault stood before it, or none
hears_case : (x : Seen) (a : Bool) (room : ℕ) (old new : ReadSide) (P Q : Past → Type 0) (out : List ℕ) (result : Result Turn ClientFault)
    (fault : Option ClientFault) → old.fault ≡ fault → room ≡ length out
    → (old.fault ≡ None → ReadTurn x a room old new P Q out result) → OnOk result (new.fault ≡ None)
    → IfErr result (λ g. new.fault ≡ Some g) → IfSome fault (λ g. (result ≡ Err g) × (new ≡ old))
    → IfSome fault (λ g. (p : Past) → P p → Q p)
    → Hears x (λ x adapted read. SideHeard x adapted read old) (λ x adapted read. SideHeard x adapted read new) old.fault new.fault
    (NothingToRead x a room new.reader.stage) (HasToWait new.reader.stage new.raw room) P Q out result
hears_case x a room old new P Q out result None e long t o s f u =
    hears_by x a room old new P Q out result e long (t e) o (stays_by new.fault result s)
hears_case x a room old new P Q out result (Some g) e long t o s f u =
    subst (λ (r : Result Turn ClientFault). Hears x (λ x adapted read. SideHeard x adapted read old)
    (λ x adapted read. SideHeard x adapted read new) old.fault new.fault (NothingToRead x a room new.reader.stage)
    (HasToWait new.reader.stage new.raw room) P Q out r) (sym f.0)
    (subst (λ (n : ReadSide). Hears x (λ x adapted read. SideHeard x adapted read old) (λ x adapted read. SideHeard x adapted read n)
    old.fault n.fault (NothingToRead x a room n.reader.stage) (HasToWait n.reader.stage n.raw room) P Q out (Err g)) (sym f.1)
    (hears_none x old (NothingToRead x a room old.reader.stage) (HasToWait old.reader.stage old.raw room) g P Q out e u))

-- a read does what a transaction asks, where a side with a fault stays and answers it again
pub hears_all : (x : Seen) (a : Bool) (room : ℕ) (old new : ReadSide) (P Q : Past → Type 0) (out : List ℕ)
    (result : Result Turn ClientFault) → room ≡ length out
    → (old.fault ≡ None → ReadTurn x a room old new P Q out result) → OnOk result (new.fault ≡ None)
    → IfErr result (λ g. new.fault ≡ Some g) → IfSome old.fault (λ g. (result ≡ Err g) × (new ≡ old))
    → IfSome old.fault (λ g. (p : Past) → P p → Q p)
    → Hears x (λ x adapted read. SideHeard x adapted read old) (λ x adapted read. SideHeard x adapted read new) old.fault new.fault
    (NothingToRead x a room new.reader.stage) (HasToWait new.reader.stage new.raw room) P Q out result
hears_all x a room old new P Q out result long t o s f u = hears_case x a room old new P Q out result old.fault refl long t o s f u

-- ---- the laws

-- at a history's beginning a side with a first reader and no raw byte has heard nothing
pub side_begins : (plan : Plan) (point : Point) (s : ReadSide) → s.reader ≡ first_reader point → s.raw ≡ []
    → SideHeard (seen plan []) [] [] s
side_begins plan point s e r = record {
  framed = [];
  text_is = sym r;
  heard = subst (λ (q : Reader). HasHeard (seen plan []) [] [] q) (sym e) (nothing_heard plan point);
  begun =
      inr (record {
        unheard = refl;
        none = refl;
        unread = refl;
        marks = record { no_mod_is = refl; modified_is = refl; has_body_is = refl; over_is = refl };
        continued = refl;
        count = refl;
      });
}
