-- What the service's pass does, by its two halves, and what that says of the line that a transaction has.
use Rattle.std.proofs.Common.{◌≡◌, ◌+◌, ◌≤◌, ◌⊎◌, inl, inr, Bool, true, false, [], Option, Some, None, arith, refl, sym, ◌∙◌, ap, subst}
use Rattle.std.specs.Prelude.{MatchOption, ⊤}
use Rattle.trace_core.specs.declared.history.Cause.{Cause}
use Rattle.wire_kit.specs.Past.{Past, IsLater}
use Rattle.wire_kit.specs.declared.wire.Wire.{Ghosts as Wire}
use Rattle.adapt_sides.specs.declared.service.Service.{Ghosts as Service}
use Rattle.plan_rules.specs.declared.limits.Limits.{Limits}
use Rattle.adapt_hold.specs.Holding.{Holding, IsTied, shows}
use Rattle.adapt_turn.specs.declared.pass.PassAnswer.{PassAnswer}
use Rattle.adapt_turn.specs.declared.ends.ServiceEnd.{ServiceEnd}
use Rattle.adapt_turn.specs.declared.turn.Side.TheVariants as sides
use Rattle.adapt_turn.specs.ChosenHead.{wire_of, side_of, on_held}
use Rattle.adapt_turn.specs.Reports.{Lent, lending, View, Report, Reported, Breaks, FailsFor, IsOfSide, service_room, fault_of, outcome_by}
use Rattle.adapt_turn.specs.Reports.{outcome_of}
use Rattle.adapt_turn.specs.Passes.{WritesDue, ReadsReplies, ServicePasses, ServiceEndPasses, service_end, service_faults}
use Rattle.adapt_turn.specs.Rows.{may_step, TookBy, Advances, BytesOr}
use Rattle.adapt_turn.specs.Stands.{WaitedBoth, Blamed}
use Rattle.adapt_turn.proofs.Paced.{reported_adapted, adapted_few, none_of_sending}
use Rattle.adapt_turn.proofs.Reasons.{reported_idle, reported_still, reported_blames, reported_fails, writes_beside, reads_beside}
use Rattle.adapt_turn.proofs.Reasons.{both_waited, blamed_then, cause_weaker, not_failed, service_blame}
use Rattle.adapt_turn.proofs.Rows.{reported_took, reported_acts, of_sending, of_replies, took_both, then_acts, acts_then}
use Rattle.adapt_turn.proofs.Stepped.{reported_over, reported_ran}
use Rattle.adapt_turn.proofs.Told.{reported_told, open_done}

-- the write alone, which didn't wait
pub written_passes : {V W : Type 0} (v : Service V) (w : Wire W) (reused : Bool) (old new : Lent V W) (passed : PassAnswer)
    → IsTied old.hold → (shows old.hold.history).closed ≡ false → (passed.waiting ≡ true → ⊥) → WritesDue v w reused old new passed
    → ServicePasses v w reused old new passed
written_passes v w reused old new passed tied c busy d =
    let part = d.reports.reports in
    let few = reported_adapted tied part 0 (none_of_sending _ part.only) in
    record {
      did = inl d;
      tied = tied;
      idle = reported_idle part;
      still = reported_still part;
      waits = λ e. absurd (busy e);
      framed = λ e. absurd (busy e);
      paced = omega (arith, few);
      took = reported_took sides.Service of_sending tied part;
      active = reported_acts sides.Service of_sending tied part;
      blames = reported_blames part;
      unbroken = λ cause e. (old.hold, reported_fails part cause e, d.unbroken cause e, cause_weaker _ _ _ _ (λ f q. inl q) d.reason);
      of_side = λ cause e. service_blame cause (part.blamed cause e);
      over = reported_over tied part;
      ends = reported_told (λ cause. refl) tied c part;
      sound = λ n b f. part.sound n b;
      breaks = λ b. let breaks = d.breaks b in (not_failed passed.failed _ (reported_over tied part) breaks.may.0, breaks);
    }

-- a pass leaves its wire later by just the bytes that it reports
over_wire : {F : Type 0} {v : View F} {h k : Holding} {r : Report} {passed : PassAnswer} → Reported v h k r passed → (p : Past) → v.before p
    → (q : Past) × v.after q × IsLater p r.given r.taken q
over_wire part p b = let w = part.wire p b in (w.0, w.1, w.2)

-- the write, and then the read: it waits where both do
pub both_passes : {V W : Type 0} (v : Service V) (w : Wire W) (reused : Bool) (old mid new : Lent V W) (first second passed : PassAnswer)
    → IsTied old.hold → IsTied mid.hold → (shows old.hold.history).closed ≡ false → (shows mid.hold.history).closed ≡ false
    → first.broken ≡ false
    → (passed.waiting ≡ true → (first.waiting ≡ true) × (second.waiting ≡ true))
    → (passed.waiting ≡ false → (first.waiting ≡ false) ⊎ ((first.waiting ≡ true) × (second.waiting ≡ false)))
    → passed.failed ≡ second.failed → passed.broken ≡ second.broken
    → WritesDue v w reused old mid first → ReadsReplies v w reused mid new second → ServicePasses v w reused old new passed
both_passes v w reused old mid new first second passed tied tied' c c' whole both one same same' a b =
    let p = a.reports.reports in
    let q = b.reports.reports in
    let h = old.hold in
    let none = not_failed first.failed _ (reported_over tied p) c' in
    let few = reported_adapted tied p 0 (none_of_sending _ p.only) in
    let more = reported_adapted tied' q _ b.reports.few in
    let turn = adapted_few (shows mid.hold.history) mid.hold.limits.window mid.hold.limits.turn in
    let limits : mid.hold.limits.turn ≡ h.limits.turn =
    ap (λ (y : Holding). y.limits.turn) p.is ∙ ap (λ (l : Limits). l.turn) (reported_ran tied p).limits in
    record {
      did = inr (record { mid = mid; first = first; second = second; tied = tied'; running = c'; writes = a; reads = b });
      tied = tied;
      idle = λ e. same ∙ reported_idle q (both e).1;
      still = λ e. reported_still q (both e).1 ∙ reported_still p (both e).0;
      waits = λ e. both_waited h mid.hold _ _ _ _ _ (λ y. v.rests_reading (shows y.history) (service_room y) new.side)
          (reported_still p (both e).0) (b.rests (shows h.history)) (writes_beside p (both e).0) (reads_beside q (both e).1);
      framed = λ e. subst (λ (y : Holding). v.is_framed (service_room y) new.side) (reported_still p (both e).0)
          (b.reports.framed (both e).1);
      paced = omega (arith, few, more, turn, limits);
      took = took_both (may_step sides.Service) h mid.hold new.hold (reported_took sides.Service of_sending tied p)
          (reported_took sides.Service of_replies tied' q);
      active = λ e k. elim (one e) [
        | inl n ↦ acts_then (may_step sides.Service) h mid.hold new.hold _ _ _ _ _ (reported_acts sides.Service of_sending tied p n whole)
            (over_wire q) (reported_took sides.Service of_replies tied' q)
        | inr n ↦ then_acts (may_step sides.Service) h mid.hold new.hold _ _ _ _ _ (reported_still p n.0) (over_wire p)
            (reported_acts sides.Service of_replies tied' q n.1 (sym same' ∙ k))
      ];
      blames = λ cause e. blamed_then v w old mid new cause _ _ (λ n. p.sound none whole) (over_wire p)
          (reported_blames q cause (sym same ∙ e));
      unbroken = λ cause e. (
        mid.hold,
        reported_fails q cause (sym same ∙ e),
        b.unbroken cause (sym same ∙ e),
        λ n. cause_weaker _ _ _ _ (λ f r. inr r) b.reason (p.sound none whole),
      );
      of_side = λ cause e. service_blame cause (q.blamed cause (sym same ∙ e));
      over = λ cause e. reported_over tied' q cause (sym same ∙ e);
      ends = ap outcome_by same ∙ reported_told (λ cause. refl) tied' c' q;
      sound = λ n k f. q.sound (sym same ∙ n) (sym same' ∙ k);
      breaks = λ k. let breaks = b.breaks (sym same' ∙ k) in
          (same ∙ not_failed second.failed _ (reported_over tied' q) breaks.may.0, breaks);
    }

-- What a pass of the line says, whether a connection is held or not.
pub record LineTold {V W : Type 0} (v : Service V) (w : Wire W) (reused : Bool) (old : Holding) (line : Option (ServiceEnd V W))
    (new : Holding) (line' : Option (ServiceEnd V W)) (passed : PassAnswer) : Type 0 where
  pub waits : passed.waiting ≡ true → WaitedBoth (MatchOption line' ⊤ (λ l. v.rests_writing (shows old.history) l.side))
      (MatchOption line' ⊤ (λ l. v.rests_reading (shows old.history) (service_room old) l.side))
      (λ p. on_held line ⊥ (λ wire. w.past wire p)) (λ p. on_held line' ⊥ (λ wire. w.past wire p))
  pub still : passed.waiting ≡ true → new ≡ old
  pub idle : passed.waiting ≡ true → passed.failed ≡ None
  pub framed : passed.waiting ≡ true → MatchOption line' ⊤ (λ l. MatchOption l.wire ⊤ (λ wire. v.is_framed (service_room old) l.side))
  pub paced : (shows new.history).adapted_received ≤ (shows old.history).adapted_received + old.limits.turn
  pub took : TookBy (may_step sides.Service) old new
  pub active : passed.waiting ≡ false → passed.broken ≡ false
      → BytesOr (Advances (may_step sides.Service) old new) (λ p. on_held line ⊥ (λ wire. w.past wire p))
      (λ p. on_held line' ⊥ (λ wire. w.past wire p))
  pub blames : (cause : Cause) → passed.failed ≡ Some cause → Blamed (service_faults v w line line') cause
  pub unbroken : (cause : Cause) → passed.failed ≡ Some cause → FailsFor v cause reused (side_of line) (side_of line') new
  pub of_side : (cause : Cause) → passed.failed ≡ Some cause → IsOfSide cause
  pub over : (cause : Cause) → passed.failed ≡ Some cause → (shows new.history).closed ≡ true
  pub ends : (shows old.history).closed ≡ false → outcome_by passed.failed ≡ outcome_of new.history.events
  pub sound : passed.failed ≡ None → passed.broken ≡ false → fault_of (λ l. v.fault l.side) line ≡ None
      → fault_of (λ l. v.fault l.side) line' ≡ None
  pub breaks : passed.broken ≡ true → (passed.failed ≡ None) × MatchOption line' ⊥ (λ l. Breaks new.history reused (v.fault l.side))
  pub served : wire_of line ≡ None → wire_of line' ≡ None
  pub absent : wire_of line ≡ None → passed.waiting ≡ true

-- what is asked of a side with a connection is so where none is held
unheld_framed : {V W : Type 0} (line : Option (ServiceEnd V W)) (this : V → Type 0) → wire_of line ≡ None
    → MatchOption line ⊤ (λ l. MatchOption l.wire ⊤ (λ wire. this l.side))
unheld_framed None this e = tt
unheld_framed (Some l) this e = unheld_wire l.wire (this l.side) e
  where
    unheld_wire : {W : Type 0} (wire : Option W) (what : Type 0) → wire ≡ None → MatchOption wire ⊤ (λ z. what)
    unheld_wire None what n = tt
    unheld_wire (Some z) what n = cc

-- a line whose connection isn't held has no past
unheld_past : {V W : Type 0} (line : Option (ServiceEnd V W)) (past : W → Type 0) → wire_of line ≡ None → on_held line ⊥ past → ⊥
unheld_past None past e b = b
unheld_past {V} {W} (Some l) past e b = subst (λ (z : Option W). MatchOption z ⊥ past) e b

-- of a line whose connection isn't held a pass that waits and does nothing says what each pass of a line says
unheld_told : {V W : Type 0} (v : Service V) (w : Wire W) (reused : Bool) (h : Holding) (line : Option (ServiceEnd V W))
    → wire_of line ≡ None
    → LineTold v w reused h line h line (record { waiting = true; failed = None; broken = false })
unheld_told v w reused h line e = record {
  waits = λ n p b. absurd (unheld_past line (λ wire. w.past wire p) e b);
  still = λ n. refl;
  idle = λ n. refl;
  framed = λ n. unheld_framed line (λ side. v.is_framed (service_room h) side) e;
  paced = omega arith;
  took = ([], tt, refl);
  active = λ n. absurd cc;
  blames = λ cause n. cc;
  unbroken = λ cause n. cc;
  of_side = λ cause n. cc;
  over = λ cause n. cc;
  ends = λ c. sym (open_done h.history c);
  sound = λ n b f. f;
  breaks = λ n. cc;
  served = λ n. n;
  absent = λ n. refl;
}

-- of a line whose connection is held a pass of the service's side says what each pass of a line says
held_told : {V W : Type 0} (v : Service V) (w : Wire W) (reused : Bool) (h k : Holding) (side side' : V) (wire wire' : W)
    (passed : PassAnswer) → ServicePasses v w reused (lending h side wire) (lending k side' wire') passed
    → LineTold v w reused h (Some (service_end side wire)) k (Some (service_end side' wire')) passed
held_told v w reused h k side side' wire wire' passed p = record {
  waits = p.waits;
  still = p.still;
  idle = p.idle;
  framed = p.framed;
  paced = p.paced;
  took = p.took;
  active = p.active;
  blames = p.blames;
  unbroken = p.unbroken;
  of_side = p.of_side;
  over = p.over;
  ends = λ c. p.ends;
  sound = p.sound;
  breaks = p.breaks;
  served = λ n. cc;
  absent = λ n. cc;
}

-- each pass of the service's line says what is asked of one, whether a connection is held or not
pub line_told : {V W : Type 0} {v : Service V} {w : Wire W} {reused : Bool} {h : Holding} {line : Option (ServiceEnd V W)} {k : Holding}
    {line' : Option (ServiceEnd V W)} {passed : PassAnswer}
    → ServiceEndPasses v w reused h line k line' passed → LineTold v w reused h line k line' passed
line_told {V} {W} {v} {w} {reused} {h} {line} {k} {line'} {passed} p = elim p.did [
  | inl n ↦ subst (λ (z : PassAnswer). LineTold v w reused h line k line' z) (sym n.3)
      (subst (λ (z : Holding). LineTold v w reused h line z line' (record { waiting = true; failed = None; broken = false })) (sym n.2)
      (subst (λ (z : Option (ServiceEnd V W)). LineTold v w reused h line h z (record { waiting = true; failed = None; broken = false }))
      (sym n.1) (unheld_told v w reused h line n.0)))
  | inr m ↦ subst (λ (z : Option (ServiceEnd V W)). LineTold v w reused h z k line' passed) (sym m.4)
      (subst (λ (z : Option (ServiceEnd V W)). LineTold v w reused h (Some (service_end m.0 m.2)) k z passed) (sym m.5)
      (held_told v w reused h k m.0 m.1 m.2 m.3 passed m.6))
]
