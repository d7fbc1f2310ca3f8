-- A message whose head is read before its transaction.
use Rattle.std.proofs.Common.{◌≡◌, ℕ, inl, inr, false, List, [], ◌++◌, take, arith, ap, Option, Some, None, IfSome, Result, Ok, Err, refl}
use Rattle.std.proofs.Common.{sym, subst, ◌∙◌}
use Rattle.trace_core.specs.declared.history.Plan.{Plan}
use Rattle.trace_core.specs.declared.history.Kind.TheVariants.{Plain}
use Rattle.trace_core.specs.declared.history.Point.TheVariants.{Reqmod}
use Rattle.trace_core.specs.History.{seen}
use Rattle.wire_kit.specs.Past.{Past}
use Rattle.adapt_sides.specs.declared.fault.RelayFault.{RelayFault}
use Rattle.http_relay.specs.declared.side.head.Asks.{Asks}
use Rattle.http_relay.specs.declared.side.head.Asks.TheVariants as asks
use Rattle.http_relay.specs.declared.side.head.SourceHead.{SourceHead}
use Rattle.http_relay.specs.declared.side.head.SourceHead.TheVariants as heads
use Rattle.http_relay.specs.declared.side.SourceSide.{SourceSide}
use Rattle.http_relay.specs.declared.side.head.HeadProgress.{HeadProgress}
use Rattle.http_relay.specs.declared.side.head.HeadProgress.TheVariants as progress
use Rattle.http_relay.specs.Reading.{AtHead, Begins, HeadTurn, IsHeadText, JudgesHeadTo}
use Rattle.wire_kit.specs.Past.{IsLater, IsGiven, after_ask}
use Rattle.wire_kit.specs.declared.wire.Got.{Got}
use Rattle.wire_kit.specs.declared.wire.Got.TheVariants as got
use Rattle.wire_kit.specs.declared.wire.Wire.{Ghosts as Wire}
use Rattle.adapt_turn.proofs.Together.{no_later, later_then}
use Rattle.proxy_rules.specs.Grown.{Grown}
use Rattle.proxy_rules.specs.Arrivals.{Arrives, HasCome, Came}
use Rattle.std.proofs.Math.Seq.{take-length}
use Rattle.std.proofs.lemmas.List.{append-nil, append_assoc}

-- a plan that offers nothing, of a body whose length isn't known
some_plan : Plan
some_plan = record {
  kind = Plain;
  allow = false;
  retry = false;
  len = None;
  point = Reqmod;
  preview_in_range = λ size e. cc;
  len_in_range = λ len e. cc;
}

-- no text is that of a head that wasn't read
no_text : (a : Asks) (text : List ℕ) → IsHeadText a heads.Unread text → ⊥
no_text asks.Request text h = h
no_text (asks.Response to_head) text h = h

-- of a message that begins the head was read
pub begun_is_read : (read : List ℕ) (s : SourceSide) → Begins read s → s.head ≡ heads.Unread → ⊥
begun_is_read read s b e =
    let r = (b (seen some_plan []) refl refl).0 in
    no_text s.asks r.head_text (subst (λ (h : SourceHead). IsHeadText s.asks h r.head_text) e r.head)

-- whatever judging the raw bytes gives, the head is still to come or the message begins
judged : (result : Result HeadProgress RelayFault) (read : List ℕ) (s : SourceSide) → JudgesHeadTo result read s → HasCome read s
judged (Ok progress.More) read s h = inl h
judged (Ok progress.Interim) read s h = inl h
judged (Ok progress.Taken) read s h = inr h
judged (Err fault) read s h = inl h

-- after a turn at a head to come, a message was still read in turns at its head
turned : (old new : SourceSide) (user : Option SourceSide) (before after : Past → Type 0) (result : Result HeadProgress RelayFault)
    → Arrives old user → old.head ≡ heads.Unread
    → HeadTurn old new before after result → new.asks ≡ old.asks → Arrives new user
turned old new user before after result a e t k = record {
  read = a.read ++ t.delta;
  has_come = judged result (a.read ++ t.delta) new (t.heads a.read (elim a.has_come [
    | inl at ↦ at
    | inr b ↦ absurd (begun_is_read a.read old b e)
  ]));
  asks = k ∙ a.asks;
}

-- of a side that stays as it was, the message was still read in turns at its head
same : (old new : SourceSide) (user : Option SourceSide) → Arrives old user → new ≡ old → Arrives new user
same old new user a e = subst (λ (s : SourceSide). Arrives s user) (sym e) a

-- after a turn that leaves a side as it is where its head was read, the message was still read in turns at its head
by_head : (head : SourceHead) (old new : SourceSide) (user : Option SourceSide) (before after : Past → Type 0)
    (result : Result HeadProgress RelayFault) → Arrives old user → old.head ≡ head
    → (old.head ≡ heads.Unread → HeadTurn old new before after result) → ((old.head ≡ heads.Unread → ⊥) → new ≡ old) → new.asks ≡ old.asks
    → Arrives new user
by_head heads.Unread old new user before after result a e t r k = turned old new user before after result a e (t e) k
by_head (heads.Request p) old new user before after result a e t r k = same old new user a (r (λ u. cc))
by_head (heads.Response p) old new user before after result a e t r k = same old new user a (r (λ u. cc))

-- after a turn that leaves a side as it is where it has a fault or a head, the message was still read in turns at its head
by_fault : (fault : Option RelayFault) (old new : SourceSide) (user : Option SourceSide) (before after : Past → Type 0)
    (result : Result HeadProgress RelayFault) → Arrives old user → old.fault ≡ fault
    → (old.fault ≡ None → old.head ≡ heads.Unread → HeadTurn old new before after result)
    → (old.fault ≡ None → (old.head ≡ heads.Unread → ⊥) → (result ≡ Ok progress.Taken) × (new ≡ old))
    → IfSome fault (λ f. (result ≡ Err f) × (new ≡ old)) → new.asks ≡ old.asks → Arrives new user
by_fault None old new user before after result a e t r f k =
    by_head old.head old new user before after result a refl (t e) (λ u. (r e u).1) k
by_fault (Some fault) old new user before after result a e t r f k = same old new user a f.1

-- a turn at the head
pub head_turned : (old new : SourceSide) (user : Option SourceSide) (before after : Past → Type 0) (result : Result HeadProgress RelayFault)
    → Arrives old user
    → (old.fault ≡ None → old.head ≡ heads.Unread → HeadTurn old new before after result)
    → (old.fault ≡ None → (old.head ≡ heads.Unread → ⊥) → (result ≡ Ok progress.Taken) × (new ≡ old))
    → IfSome old.fault (λ f. (result ≡ Err f) × (new ≡ old)) → new.asks ≡ old.asks → Arrives new user
head_turned old new user before after result a t r f k = by_fault old.fault old new user before after result a refl t r f k

-- a message whose head was read begins
pub has_begun : (side : SourceSide) (user : Option SourceSide) (a : Arrives side user) → (side.head ≡ heads.Unread → ⊥) → Begins a.read side
has_begun side user a n = elim a.has_come [
  | inl at ↦ absurd (n at.unread)
  | inr b ↦ b
]

-- What the source's wire gave since the message began.

-- a wire that was asked once at most gave just the bytes of its answer, and took none
later_given : (p : Past) (given : List ℕ) (answer : Option Got) → IsGiven given answer → IsLater p given [] (after_ask p given answer)
later_given p given None e = record {
  read = sym (ap (λ (t : List ℕ). p.read ++ t) e ∙ append-nil p.read);
  out = sym (append-nil p.taken);
  ends = omega arith;
  read_waits = omega arith;
  write_waits = omega arith;
  faults = omega arith;
}
later_given p given (Some (got.Bytes n)) f =
    let whole : take n given ≡ given = ap (λ (k : ℕ). take k given) f.0 ∙ take-length given in
    record {
      read = ap (λ (t : List ℕ). p.read ++ t) whole;
      out = sym (append-nil p.taken);
      ends = omega arith;
      read_waits = omega arith;
      write_waits = omega arith;
      faults = omega arith;
    }
later_given p given (Some got.Ended) e = record {
  read = sym (ap (λ (t : List ℕ). p.read ++ t) e ∙ append-nil p.read);
  out = sym (append-nil p.taken);
  ends = omega arith;
  read_waits = omega arith;
  write_waits = omega arith;
  faults = omega arith;
}
later_given p given (Some got.Wait) e = record {
  read = sym (ap (λ (t : List ℕ). p.read ++ t) e ∙ append-nil p.read);
  out = sym (append-nil p.taken);
  ends = omega arith;
  read_waits = omega arith;
  write_waits = omega arith;
  faults = omega arith;
}
later_given p given (Some got.Fault) e = record {
  read = sym (ap (λ (t : List ℕ). p.read ++ t) e ∙ append-nil p.read);
  out = sym (append-nil p.taken);
  ends = omega arith;
  read_waits = omega arith;
  write_waits = omega arith;
  faults = omega arith;
}

-- of a message whose head is to come
at_head : (read : List ℕ) (s : SourceSide) → s.head ≡ heads.Unread → HasCome read s → AtHead read s
at_head read s e h = elim h [
  | inl at ↦ at
  | inr b ↦ absurd (begun_is_read read s b e)
]

-- after a turn at a head to come, just the further bytes that the wire gave were read of the message
came_on : {A : Type 0} (a : Wire A) (first : A) (ahead since beside : List ℕ) (old new : SourceSide) (wire wire' : A)
    (result : Result HeadProgress RelayFault) → old.head ≡ heads.Unread
    → HeadTurn old new (a.past wire) (a.past wire') result → Came a first ahead since beside old wire
    → (more : List ℕ) × Came a first ahead (since ++ more) beside new wire'
came_on a first ahead since beside old new wire wire' result e t c = (
  t.delta,
  record {
    has_come = subst (λ (bs : List ℕ). HasCome bs new) (append_assoc ahead since t.delta)
        (judged result ((ahead ++ since) ++ t.delta) new (t.heads (ahead ++ since) (at_head (ahead ++ since) old e c.has_come)));
    wire_is = λ p b.
        let x = c.wire_is p b in
        let q = after_ask x.0 t.delta t.answer in (
          q,
          t.wire.each x.0 x.1,
          subst (λ (bs : List ℕ). IsLater p (since ++ t.delta) bs q) (append-nil beside)
              (later_then p x.0 q since beside t.delta [] x.2 (later_given x.0 t.delta t.answer t.wire.fits)),
        );
  },
)

-- where the side and its wire stay as they were, what came of the message is still what the wire gave
came_still : {A : Type 0} (a : Wire A) (first : A) (ahead since beside : List ℕ) (old new : SourceSide) (wire wire' : A) → new ≡ old
    → wire' ≡ wire
    → Came a first ahead since beside old wire → (more : List ℕ) × Came a first ahead (since ++ more) beside new wire'
came_still {A} a first ahead since beside old new wire wire' e f c = (
  [],
  subst (λ (bs : List ℕ). Came a first ahead bs beside new wire') (sym (append-nil since))
      (subst (λ (s : SourceSide). Came a first ahead since beside s wire') (sym e)
      (subst (λ (z : A). Came a first ahead since beside old z) (sym f) c)),
)

-- after a turn at a head, read or still to come, what came of the message is still what the wire gave
came_by_head : {A : Type 0} (a : Wire A) (first : A) (ahead since beside : List ℕ) (head : SourceHead) (old new : SourceSide)
    (wire wire' : A) (result : Result HeadProgress RelayFault) → old.head ≡ head
    → (old.head ≡ heads.Unread → HeadTurn old new (a.past wire) (a.past wire') result) → ((old.head ≡ heads.Unread → ⊥) → new ≡ old)
    → ((old.head ≡ heads.Unread → ⊥) → wire' ≡ wire)
    → Came a first ahead since beside old wire → (more : List ℕ) × Came a first ahead (since ++ more) beside new wire'
came_by_head a first ahead since beside heads.Unread old new wire wire' result e t r w c =
    came_on a first ahead since beside old new wire wire' result e (t e) c
came_by_head a first ahead since beside (heads.Request p) old new wire wire' result e t r w c =
    came_still a first ahead since beside old new wire wire' (r (λ u. cc)) (w (λ u. cc)) c
came_by_head a first ahead since beside (heads.Response p) old new wire wire' result e t r w c =
    came_still a first ahead since beside old new wire wire' (r (λ u. cc)) (w (λ u. cc)) c

-- after a turn at the head of a side with a fault or without, what came of the message is still what the wire gave
came_by_fault : {A : Type 0} (a : Wire A) (first : A) (ahead since beside : List ℕ) (fault : Option RelayFault) (old new : SourceSide)
    (wire wire' : A) (result : Result HeadProgress RelayFault) → old.fault ≡ fault
    → (old.fault ≡ None → old.head ≡ heads.Unread → HeadTurn old new (a.past wire) (a.past wire') result)
    → (old.fault ≡ None → (old.head ≡ heads.Unread → ⊥) → (result ≡ Ok progress.Taken) × (new ≡ old))
    → IfSome fault (λ f. (result ≡ Err f) × (new ≡ old)) → ((old.fault ≡ None → old.head ≡ heads.Unread → ⊥) → wire' ≡ wire)
    → Came a first ahead since beside old wire → (more : List ℕ) × Came a first ahead (since ++ more) beside new wire'
came_by_fault a first ahead since beside None old new wire wire' result e t r f w c =
    came_by_head a first ahead since beside old.head old new wire wire' result refl (t e) (λ u. (r e u).1) (λ u. w (λ n. u)) c
came_by_fault a first ahead since beside (Some fault) old new wire wire' result e t r f w c =
    came_still a first ahead since beside old new wire wire' f.1 (w (λ n u. let d : Some fault ≡ None = sym e ∙ n in cc)) c

-- a turn at the head, where the side is seen so
pub came_turned : {A : Type 0} (a : Wire A) (first : A) (ahead since beside : List ℕ) (old seen_as new : SourceSide) (wire wire' : A)
    (result : Result HeadProgress RelayFault) → old ≡ seen_as
    → (old.fault ≡ None → old.head ≡ heads.Unread → HeadTurn old new (a.past wire) (a.past wire') result)
    → (old.fault ≡ None → (old.head ≡ heads.Unread → ⊥) → (result ≡ Ok progress.Taken) × (new ≡ old))
    → IfSome old.fault (λ f. (result ≡ Err f) × (new ≡ old)) → ((old.fault ≡ None → old.head ≡ heads.Unread → ⊥) → wire' ≡ wire)
    → Came a first ahead since beside seen_as wire → (more : List ℕ) × Came a first ahead (since ++ more) beside new wire'
came_turned {A} a first ahead since beside old seen_as new wire wire' result is t r f w c =
    came_by_fault a first ahead since beside old.fault old new wire wire' result refl t r f w
    (subst (λ (z : SourceSide). Came a first ahead since beside z wire) (sym is) c)

-- the message begins on this wire
pub came_first : {A : Type 0} (a : Wire A) (ahead : List ℕ) (side : SourceSide) (wire : A) → HasCome ahead side
    → Came a wire ahead [] [] side wire
came_first a ahead side wire h = record {
  has_come = subst (λ (bs : List ℕ). HasCome bs side) (sym (append-nil ahead)) h;
  wire_is = λ p b. (p, b, no_later p);
}

-- the wire takes more, beside the message
pub came_beside : {A : Type 0} (a : Wire A) (first : A) (ahead since beside more : List ℕ) (side : SourceSide) (wire wire' : A)
    → Grown (a.past wire) (a.past wire') [] more
    → Came a first ahead since beside side wire → Came a first ahead since (beside ++ more) side wire'
came_beside a first ahead since beside more side wire wire' g c = record {
  has_come = c.has_come;
  wire_is = λ p b.
      let x = c.wire_is p b in
      let y = g x.0 x.1 in (
        y.0,
        y.1,
        subst (λ (bs : List ℕ). IsLater p bs (beside ++ more) y.0) (append-nil since)
            (later_then p x.0 y.0 since beside [] more x.2 y.2),
      );
}
