-- Why a pass waits, or fails.
use Rattle.std.proofs.Common.{◌≡◌, ℕ, ◌<◌, ◌≤◌, ◌⊎◌, inl, inr, Bool, true, false, List, [], Option, Some, None, Result, Ok, Err, arith}
use Rattle.std.proofs.Common.{refl, sym, ◌∙◌, ap, subst}
use Rattle.std.proofs.lemmas.Bool.{false≢true}
use Rattle.std.specs.Prelude.{MatchOption, ⊤}
use Rattle.trace_core.specs.declared.history.Event.{Event}
use Rattle.trace_core.specs.declared.history.Cause.{Cause}
use Rattle.trace_core.specs.declared.history.Event.TheVariants.{Fail, Retry}
use Rattle.trace_core.specs.Legal.{MayFollow}
use Rattle.wire_kit.specs.Past.{Past, IsLater}
use Rattle.adapt_sides.specs.declared.fault.ClientFault.{ClientFault}
use Rattle.adapt_sides.specs.declared.fault.ClientFault.TheVariants as client
use Rattle.adapt_hold.specs.Holding.{Holding, shows, moved}
use Rattle.adapt_hold.specs.Steps.{moved_all}
use Rattle.wire_kit.specs.declared.wire.Wire.{Ghosts as Wire}
use Rattle.adapt_sides.specs.declared.source.Source.{Ghosts as Source}
use Rattle.adapt_sides.specs.declared.service.Service.{Ghosts as Service}
use Rattle.adapt_sides.specs.declared.hop.Hop.{Ghosts as Hop}
use Rattle.adapt_turn.specs.declared.ends.ServiceEnd.{ServiceEnd}
use Rattle.adapt_turn.specs.declared.pass.PassAnswer.{PassAnswer}
use Rattle.adapt_turn.specs.ChosenHead.{side_of}
use Rattle.adapt_turn.specs.declared.turn.Outcome.{Outcome}
use Rattle.adapt_turn.specs.declared.turn.Outcome.TheVariants as outcomes
use Rattle.adapt_sides.specs.declared.turn.Turn.{Turn}
use Rattle.adapt_sides.specs.declared.fault.RelayFault.{RelayFault}
use Rattle.adapt_sides.specs.declared.fault.RelayFault.TheVariants as relay
use Rattle.adapt_sides.specs.Turns.{FailsGiving, Remembers, IsExplained}
use Rattle.adapt_turn.specs.Reports.{IsOfSide, source_cause, service_cause, Breaks, HasFaultReason, FailsFor, Lent, lending, View}
use Rattle.adapt_turn.specs.Reports.{source_view, hear_view, hop_view, Report, Reported, stepped, hop_cause, outcome_by}
use Rattle.adapt_turn.specs.Passes.{service_faults}
use Rattle.adapt_turn.specs.Stands.{Waited, WaitedBeside, WaitedBoth, faults_in, Blamed, BlamedWriter}

-- a pass that waits had nothing due, or its wire answered Wait
pub reported_waits : {F : Type 0} {v : View F} {h k : Holding} {r : Report} {passed : PassAnswer} → Reported v h k r passed
    → passed.waiting ≡ true → Waited v.rests v.waits v.before v.after
reported_waits p e = λ past b. let w = p.wire past b in (w.0, w.1, w.3.waiting e)

-- a pass that failed has the cause of its side's fault
pub reported_blames : {F : Type 0} {v : View F} {h k : Holding} {r : Report} {passed : PassAnswer} → Reported v h k r passed
    → (cause : Cause) → passed.failed ≡ Some cause
    → Blamed (faults_in v) cause
reported_blames p cause e = λ past b. let w = p.wire past b in (w.0, w.1, w.3.failed cause e)

-- a pass that waits hasn't failed
pub reported_idle : {F : Type 0} {v : View F} {h k : Holding} {r : Report} {passed : PassAnswer} → Reported v h k r passed
    → passed.waiting ≡ true → passed.failed ≡ None
reported_idle p e = (p.tells.idle e).2

-- the cause lies with the side, or with memory

-- each fault of the source has a cause that lies with a side, or with memory
source_side : (fault : RelayFault) → IsOfSide (source_cause fault)
source_side relay.NoMemory = tt
source_side _ = tt

-- a cause that comes of a fault of the source lies with a side, or with memory
pub source_blame : {new : Option RelayFault} (cause : Cause) → (fault : RelayFault) × (new ≡ Some fault) × (cause ≡ source_cause fault)
    → IsOfSide cause
source_blame cause w = subst IsOfSide (sym w.2) (source_side w.0)

-- each fault of the service has a cause that lies with a side, or with memory
service_side : (fault : ClientFault) → IsOfSide (service_cause fault)
service_side client.NoMemory = tt
service_side _ = tt

-- a cause that comes of a fault of the service lies with a side, or with memory
pub service_blame : {new : Option ClientFault} (cause : Cause) → (fault : ClientFault) × (new ≡ Some fault) × (cause ≡ service_cause fault)
    → IsOfSide cause
service_blame cause w = subst IsOfSide (sym w.2) (service_side w.0)

-- the same sides and wires, by other names

-- a side that waited on its wire waited by other names of both
pub waits_kept : {S A : Type 0} (rests : S → Type 0) (past : A → Past → Type 0) (waits : Past → ℕ) (before : Past → Type 0) (s s' : S)
    (a a' : A) → s' ≡ s → a' ≡ a
    → Waited (rests s) waits before (past a) → Waited (rests s') waits before (past a')
waits_kept {S} {A} rests past waits before s s' a a' e f w =
    subst (λ (z : S). Waited (rests z) waits before (past a')) (sym e) (subst (λ (z : A). Waited (rests s) waits before (past z)) (sym f) w)

-- a cause that is that of the source's fault is so by other names of the side and of its wire
pub blamed_kept : {S H W : Type 0} (s : Source S H) (w : Wire W) (old mid new : Lent S W) (cause : Cause) → new.side ≡ mid.side
    → new.wire ≡ mid.wire
    → Blamed (faults_in (source_view s w old mid)) cause → Blamed (faults_in (source_view s w old new)) cause
blamed_kept {S} {H} {W} s w old mid new cause e f b =
    subst (λ (z : S). Blamed (faults_in (source_view s w old (lending mid.hold z new.wire))) cause) (sym e)
    (subst (λ (z : W). Blamed (faults_in (source_view s w old (lending mid.hold mid.side z))) cause) (sym f) b)

-- an outcome says why a pass failed
pub outcome_fails : (failed : Option Cause) (r : Outcome) (cause : Cause) → r ≡ outcome_by failed → r ≡ outcomes.Fail cause
    → failed ≡ Some cause
outcome_fails None r cause s e = absurd cc
outcome_fails (Some c) r cause s e = cc

-- the service's line

-- a pass that waits leaves what is held as it was
pub reported_still : {F : Type 0} {v : View F} {h k : Holding} {r : Report} {passed : PassAnswer} → Reported v h k r passed
    → passed.waiting ≡ true → k ≡ h
reported_still {F} {v} {h} {k} {r} {passed} p e =
    let i = p.tells.idle e in
    p.is ∙ ap (λ (f : Option Cause). moved_all h (stepped f r.events) r.out) i.2 ∙ ap (λ (es : List Event). moved_all h es r.out) i.1

-- where a pass waits, the other answers of its wire that say so haven't become fewer
pub writes_beside : {F : Type 0} {v : View F} {h k : Holding} {r : Report} {passed : PassAnswer} → Reported v h k r passed
    → passed.waiting ≡ true → WaitedBeside v.rests v.waits (λ q. q.read_waits) v.before v.after
writes_beside part e = λ p b. let w = part.wire p b in (w.0, w.1, w.2.read_waits, w.3.waiting e)

-- where a pass waits, the writes that its wire let wait haven't become fewer
pub reads_beside : {F : Type 0} {v : View F} {h k : Holding} {r : Report} {passed : PassAnswer} → Reported v h k r passed
    → passed.waiting ≡ true → WaitedBeside v.rests v.waits (λ q. q.write_waits) v.before v.after
reads_beside part e = λ p b. let w = part.wire p b in (w.0, w.1, w.2.write_waits, w.3.waiting e)

-- a pass that failed did so by one step
pub reported_fails : {F : Type 0} {v : View F} {h k : Holding} {r : Report} {passed : PassAnswer} → Reported v h k r passed
    → (cause : Cause) → passed.failed ≡ Some cause → k ≡ moved h (Fail cause) []
reported_fails {F} {v} {h} {k} {r} {passed} p cause e = p.is ∙ ap (λ (f : Option Cause). moved_all h (stepped f r.events) r.out) e

-- a cause that is blamed after a pass that left no new fault is blamed from before the pass
pub blamed_then : {V W : Type 0} (v : Service V) (w : Wire W) (old mid new : Lent V W) (cause : Cause) (given taken : List ℕ)
    → (v.fault old.side ≡ None → v.fault mid.side ≡ None)
    → ((p : Past) → w.past old.wire p → (q : Past) × w.past mid.wire q × IsLater p given taken q)
    → Blamed (faults_in (hear_view v w mid new)) cause → Blamed (faults_in (hear_view v w old new)) cause
blamed_then v w old mid new cause given taken e goes blamed = λ p b.
    let u = goes p b in
    let r = blamed u.0 u.1 in
    let l = u.2.faults in
    let k = u.2.ends in
    let f = r.2 in (
      r.0,
      r.1,
      (
        f.0,
        f.1,
        f.2,
        λ o. (
          (λ d. let m = (f.3 (e o)).0 d in omega (arith, m, l)),
          (λ c. let m = (f.3 (e o)).1 c in omega (arith, m, k)),
        ),
      ),
    )

-- A writer's.

-- a turn that went well is no fault
pub never_err : (turn : Turn) (fault : RelayFault) (this : Type 0) → Ok turn ≡ Err fault → this
never_err turn fault this e = cc

-- two results that are faults and the same have the same fault
pub same_err : (f g : RelayFault) → (let r : Result Turn RelayFault = Err f in r) ≡ Err g → f ≡ g
same_err f g e = cc

-- the message was begun before the pass: the writer's fault is that of the first moment
pub writer_blamed : {K G W : Type 0} (k : Hop K G) (w : Wire W) (begun new : Lent K W) (first : K) (failed : Option Cause) (cause : Cause)
    → failed ≡ Some cause
    → Blamed (faults_in (hop_view k w begun new)) cause
    → HasFaultReason (k.fault begun.side) (k.fault new.side) (FailsGiving
    (k.breaks_length (shows begun.hold.history) (k.body_framing new.side)))
    → ((had : RelayFault) → k.fault begun.side ≡ Some had → failed ≡ Some (hop_cause had)) → k.fault begun.side ≡ k.fault first
    → BlamedWriter k w (lending begun.hold first begun.wire) new cause
writer_blamed k w begun new first failed cause e blamed has again is = λ p b.
    let r = blamed p b in
    let f = r.2 in (
      r.0,
      r.1,
      (
        f.0,
        f.2,
        (λ had h. (let same : Some (hop_cause had) ≡ Some cause = sym (again had (is ∙ h)) ∙ e in cc)),
        λ n. (f.3 (is ∙ n), has (is ∙ n) f.0 f.1),
      ),
    )

-- and before a refusal
pub writer_kept : {K G W : Type 0} (k : Hop K G) (w : Wire W) (old mid new : Lent K W) (cause : Cause)
    → k.body_framing new.side ≡ k.body_framing mid.side → new.wire ≡ mid.wire
    → BlamedWriter k w old mid cause → BlamedWriter k w old new cause
writer_kept {K} {G} {W} k w old mid new cause e same blamed = λ p b.
    let r = blamed p b in
    let f = r.2 in (
      r.0,
      subst (λ (z : W). w.past z r.0) (sym same) r.1,
      (
        f.0,
        f.1,
        f.2,
        λ n. (
          (f.3 n).0,
          subst (λ (z : G). FailsGiving (k.breaks_length (shows old.hold.history) z) f.0) (sym e)
              (f.3 n).1,
        ),
      ),
    )

-- The reasons of first faults.

-- a turn's, by what it answers
pub cause_of : {F : Type 0} (old new : Option F) (reason : F → Type 0) (result : Result Turn F) → Remembers old new result
    → IsExplained old reason result → HasFaultReason old new reason
cause_of {F} old new reason (Ok turn) k r = λ none f n. let odd : Some f ≡ None = sym n ∙ k.sound turn refl in cc
cause_of {F} old new reason (Err fault) k r = λ none f n.
    let is : Some fault ≡ Some f = sym (k.stays fault refl) ∙ n in
    let same : fault ≡ f = cc in
    r none f (ap (λ (g : F). let e : Result Turn F = Err g in e) same)

-- a weaker one
pub cause_weaker : {F : Type 0} (old new : Option F) (reason wider : F → Type 0) → ((f : F) → reason f → wider f)
    → HasFaultReason old new reason → HasFaultReason old new wider
cause_weaker {F} old new reason wider k w = λ none f n. k f (w none f n)

-- why a writer failed stands with fewer conditions on a broken length
pub giving_weaker : (this breaks : Type 0) (f : RelayFault) → FailsGiving (this × breaks) f → FailsGiving breaks f
giving_weaker this breaks f (inl d) = inl d
giving_weaker this breaks f (inr l) = inr (l.0, l.1.1)

-- no side was touched
pub cause_none : {F : Type 0} (old new : Option F) (reason : F → Type 0) → new ≡ old → HasFaultReason old new reason
cause_none {F} old new reason e = λ none f n. let odd : Some f ≡ None = sym n ∙ (e ∙ none) in cc

-- the later fault, and what has its reason, by other names
pub cause_kept : {F G : Type 0} (reason : G → F → Type 0) (f0 f1 f2 : Option F) (g g' : G) → f2 ≡ f1 → g' ≡ g
    → HasFaultReason f0 f1 (reason g) → HasFaultReason f0 f2 (reason g')
cause_kept {F} {G} reason f0 f1 f2 g g' e same w = λ none f n. subst (λ (z : G). reason z f) (sym same) (w none f (sym e ∙ n))

-- where a failure would have closed the history, and it is open, nothing failed
pub not_failed : (failed : Option Cause) (closed : Bool) → ((cause : Cause) → failed ≡ Some cause → closed ≡ true) → closed ≡ false
    → failed ≡ None
not_failed None closed over c = refl
not_failed (Some cause) closed over c = absurd (false≢true (sym c ∙ over cause refl))

-- a cause that is that of the service's fault is so by another name of its line
pub line_blamed_kept : {V W : Type 0} (v : Service V) (w : Wire W) (old mid new : Option (ServiceEnd V W)) (cause : Cause) → new ≡ mid
    → Blamed (service_faults v w old mid) cause → Blamed (service_faults v w old new) cause
line_blamed_kept {V} {W} v w old mid new cause e b =
    subst (λ (z : Option (ServiceEnd V W)). Blamed (service_faults v w old z) cause) (sym e) b

-- why the service failed is so by other names of what is held and of its line
pub fails_kept : {V W : Type 0} (v : Service V) (cause : Cause) (reused : Bool) (old : Option V) (h h' : Holding)
    (l l' : Option (ServiceEnd V W)) → h' ≡ h → l' ≡ l
    → FailsFor v cause reused old (side_of l) h → FailsFor v cause reused old (side_of l') h'
fails_kept {V} {W} v cause reused old h h' l l' e f w =
    subst (λ (k : Holding). FailsFor v cause reused old (side_of l') k) (sym e)
    (subst (λ (z : Option (ServiceEnd V W)). FailsFor v cause reused old (side_of z) h) (sym f) w)

-- a write that waited, and then a read that waited, are a line that waited in both
pub both_waited : (h m : Holding) (before mid after_ : Past → Type 0) (w0 w1 : Type 0) (r : Holding → Type 0) → m ≡ h → (w0 → w1)
    → WaitedBeside w0 (λ q. q.write_waits) (λ q. q.read_waits) before mid
    → WaitedBeside (r m) (λ q. q.read_waits) (λ q. q.write_waits) mid after_ → WaitedBoth w1 (r h) before after_
both_waited h m before mid after_ w0 w1 r e k s t = λ p b. let u = s p b in let v = t u.0 u.1 in
    (v.0, v.1, writes p u.0 v.0 v.2 u.3, reads p u.0 v.0 u.2 v.3)
  where
    writes : (a b c : Past) → b.write_waits ≤ c.write_waits → w0 ⊎ (a.write_waits < b.write_waits) → w1 ⊎ (a.write_waits < c.write_waits)
    writes a b c l (inl x) = inl (k x)
    writes a b c l (inr n) = inr (omega (arith, l, n))

    reads : (a b c : Past) → a.read_waits ≤ b.read_waits → r m ⊎ (b.read_waits < c.read_waits) → r h ⊎ (a.read_waits < c.read_waits)
    reads a b c l (inl x) = inl (subst r e x)
    reads a b c l (inr n) = inr (omega (arith, l, n))

-- the writer's pass, after a beginning that changed neither what is held nor a wire

-- the service's line after a refusal

-- a line that waited in both ways waited so by another name of it
pub both_kept : {L : Type 0} (w r : L → Type 0) (past : L → Past → Type 0) (before : Past → Type 0) (l l' : Option L) → l' ≡ l
    → WaitedBoth (MatchOption l ⊤ w) (MatchOption l ⊤ r) before (λ p. MatchOption l ⊥ (λ z. past z p))
    → WaitedBoth (MatchOption l' ⊤ w) (MatchOption l' ⊤ r) before (λ p. MatchOption l' ⊥ (λ z. past z p))
both_kept {L} w r past before l l' e t = subst (λ (y : Option L). WaitedBoth (MatchOption y ⊤ w) (MatchOption y ⊤ r) before
    (λ p. MatchOption y ⊥ (λ z. past z p))) (sym e) t

-- a broken connection is so by other names of what is held and of its line, and a retry may follow
pub breaks_kept : {L : Type 0} (fault : L → Option ClientFault) (reused : Bool) (h h' : Holding) (l l' : Option L) → l' ≡ l → h' ≡ h
    → MatchOption l ⊥ (λ z. Breaks h.history reused (fault z))
    → MayFollow h'.history.plan h'.history.events Retry × MatchOption l' ⊥ (λ z. Breaks h'.history reused (fault z))
breaks_kept {L} fault reused h h' l l' e f b =
    subst (λ (k : Holding). MayFollow k.history.plan k.history.events Retry × MatchOption l' ⊥ (λ z. Breaks k.history reused (fault z)))
    (sym f)
    (subst (λ (y : Option L). MayFollow h.history.plan h.history.events Retry × MatchOption y ⊥ (λ z. Breaks h.history reused (fault z)))
    (sym e) (may_of l b, b))
  where
    may_of : (line : Option L) → MatchOption line ⊥ (λ z. Breaks h.history reused (fault z))
        → MayFollow h.history.plan h.history.events Retry
    may_of None w = absurd w
    may_of (Some z) w = w.may
