-- A turn answers what its pass did and moved; a closed or late transaction gets no pass, nor does a service whose connection broke.
use Rattle.adapt_turn.proofs.Together.{goes_none, goes_then}
use Rattle.std.proofs.Common.{inl, inr, sym, ◌∙◌, ap, ◌≡◌, refl, subst, true, false, [], Some, None, ℕ, arith, ◌+◌, ◌≤◌}
use Rattle.trace_core.specs.declared.history.Cause.TheVariants.{Deadline, Stopping}
use Rattle.plan_rules.specs.Room.{original_room, adapted_room}
use Rattle.adapt_hold.specs.Holding.{Holding, shows}
use Rattle.adapt_turn.proofs.Reasons.{waits_kept, both_kept, blamed_kept, line_blamed_kept, writer_kept, fails_kept, breaks_kept}
use Rattle.adapt_turn.proofs.Reasons.{cause_kept, outcome_fails, not_failed}
use Rattle.adapt_turn.proofs.ByteCounts.{moves_of, moves_none, none_over, waiting_not, some_line}
use Rattle.adapt_turn.specs.declared.turn.Outcome.TheVariants as outcomes
use Rattle.adapt_turn.proofs.Told.{done_told, failed_over}
use Rattle.std.proofs.lemmas.Bool.{false≢true}
use Rattle.adapt_turn.specs.Rows.{may_step, TookBy, Advances}
use Rattle.adapt_turn.specs.Turn.{HasNotFailed}
use Rattle.adapt_turn.proofs.Rows.{by_side, fail_advances, took_fail}
use Rattle.trace_core.specs.declared.history.Cause.{Cause}
use Rattle.adapt_turn.specs.Refusals.{refusal_status, user_view, HasRefusal}
use Rattle.adapt_turn.proofs.Refusals.{by_point}
use Rattle.adapt_turn.proofs.TurnAnswers.{unfailed, by_answer, answer_on, not_broken, paces_still, for_side, of_either, of_one}
use Rattle.adapt_turn.proofs.TurnAnswers.{idle_no_message}
use Rattle.adapt_turn.specs.declared.turn.TurnAnswer.TheVariants as answers
use Rattle.adapt_turn.specs.ChosenHead.{side_of, response_of, answers_user}
use Rattle.std.specs.Prelude.{MatchOption, ⊤}
use Rattle.adapt_turn.proofs.Paced.{paced_kept}
use Rattle.adapt_turn.specs.Reports.{fault_of, lending}
use Rattle.adapt_turn.specs.declared.ends.ServiceEnd.{ServiceEnd}
use Rattle.adapt_turn.proofs.Faultless.{unmarked_before, unmarked_now}
use Rattle.plan_rules.specs.declared.pace.Pace.{Pace}
use Rattle.adapt_turn.proofs.ServiceEnds.{line_told}
use Rattle.adapt_turn.proofs.tx.Tx.turn.Goals as goal

-- nothing isn't something
none_some : {A : Type 0} {a : A} → None ≡ Some a → ⊥
none_some d = cc

-- two failures that are the same have the same cause
same_cause : {cause other : Cause} → outcomes.Fail cause ≡ outcomes.Fail other → cause ≡ other
same_cause d = cc

-- the deadline isn't a stop
not_stopping : Deadline ≡ Stopping → ⊥
not_stopping d = cc

-- an answer that says moved bytes isn't one that says Broken
moved_not_broken : {n : ℕ} → answers.Moved n ≡ answers.Broken → ⊥
moved_not_broken d = cc

-- two answers that say moved bytes and are the same say as many
moved_same : {n m : ℕ} → answers.Moved n ≡ answers.Moved m → n ≡ m
moved_same d = cc

-- a number is at most its sum with another
at_most : (n more : ℕ) → n ≤ n + more
at_most n more = omega arith

pub returns-then-is_broken-clause-goes : goal.returns-then-is_broken-clause-goes
returns-then-is_broken-clause-goes g c = goes_none

pub returns-clause-goes : goal.returns-clause-goes
returns-clause-goes g c =
    let pass = c.pass-passed.ensures in
    goes_then pass.goes c.after_pass.ensures.goes

pub returns-clause-answers : goal.returns-clause-answers
returns-clause-answers g c =
    let ends = c.args.self.now.ends in
    let passed = c.pass-passed.new.self.ends in
    let after = c.after_pass.new.self.ends in
    let held = c.args.self.now.hold in
    let said = c.after_pass.ensures.said in
    let pace = c.args.self.now.pace in
    let pass = c.pass-passed.ensures in
    by_answer c.after_pass.result _
    (λ w. record {
      hold = c.after_pass.ensures.hold ∙ pass.any.still (said.waiting w).0;
      still = moves_of g.E.SourceWire.Wire.past g.E.ServiceWire.Wire.past g.E.NextWire.Wire.past ends.source_wire
          passed.source_wire after.source_wire
          ends.service passed.service after.service ends.next_wire
          passed.next_wire after.next_wire _ _ _ _ _ _ 0
          c.counts-before.ensures.source c.counts.ensures.source c.counts-before.ensures.service c.counts.ensures.service
          c.counts-before.ensures.next c.counts.ensures.next
          pass.served c.after_pass.ensures.kept.1 c.after_pass.ensures.kept.2 c.after_pass.ensures.kept.3
          (sym (said.waiting w).1 ∙ c.since-moved.ensures);
      refusal = λ k. absurd (false≢true (sym (sym c.is_closed.ensures ∙ c.if-is_closed.false) ∙ k));
      side = λ k. for_side c.args.side _ _ _
          (λ s. record {
            waited = waits_kept (λ z. g.E.Reader.Source.rests
                (original_room (shows held.history) held.claim held.limits.window
                held.limits.turn) z) g.E.SourceWire.Wire.past _ _ passed.source
                after.source passed.source_wire after.source_wire
                c.after_pass.ensures.kept.0 c.after_pass.ensures.kept.1 ((pass.source s).waits
                (said.waiting w).0);
            framed = subst (λ z. g.E.Reader.Source.is_framed (original_room (shows held.history)
                held.claim held.limits.window held.limits.turn) z)
                (sym c.after_pass.ensures.kept.0) ((pass.source s).framed (said.waiting w).0);
          })
          (λ s. record {
            waited = both_kept (λ l. g.E.Client.Service.rests_writing (shows held.history) l.side)
                (λ l. g.E.Client.Service.rests_reading (shows held.history)
                (adapted_room (shows held.history) held.limits.window held.limits.turn)
                l.side) (λ l p. MatchOption l.wire ⊥ (λ w. g.E.ServiceWire.Wire.past w p)) _ passed.service
                after.service c.after_pass.ensures.kept.2
                ((line_told (pass.service s)).waits (said.waiting w).0);
            framed =
                subst (λ z. MatchOption z ⊤ (λ l. MatchOption l.wire ⊤ (λ w.
                g.E.Client.Service.is_framed (adapted_room (shows held.history) held.limits.window
                held.limits.turn) l.side))) (sym c.after_pass.ensures.kept.2)
                ((line_told (pass.service s)).framed (said.waiting w).0);
          })
          (λ s. elim ((pass.next s).waits (said.waiting w).0) [
            | inl u ↦ inl u
            | inr v ↦ inr (record {
              begun = λ n b. v.0 (sym (ap g.E.Writer.Hop.gift (c.after_pass.ensures.same
                  (pass.any.idle (said.waiting w).0)).0) ∙ n)
                  (sym (ap g.E.Writer.Hop.gift (c.after_pass.ensures.same
                  (pass.any.idle (said.waiting w).0)).1) ∙ b);
              waited = of_either _ _ _ _ _ _ (ap g.E.Writer.Hop.gift (c.after_pass.ensures.same
                  (pass.any.idle (said.waiting w).0)).1)
                  (λ z. waits_kept (λ k. g.E.Writer.Hop.rests (shows held.history) k) g.E.NextWire.Wire.past _ _
                  passed.next after.next passed.next_wire
                  after.next_wire (c.after_pass.ensures.same
                  (pass.any.idle (said.waiting w).0)).0 c.after_pass.ensures.kept.3 z)
                  (λ z. waits_kept (λ k. g.E.Writer.Hop.rests (shows held.history) k) g.E.SourceWire.Wire.past _ _
                  passed.back after.back passed.source_wire
                  after.source_wire (c.after_pass.ensures.same
                  (pass.any.idle (said.waiting w).0)).1 c.after_pass.ensures.kept.1 z)
                  v.1;
            })
          ]);
    })
    (λ n m. record {
      bytes = moves_of g.E.SourceWire.Wire.past g.E.ServiceWire.Wire.past g.E.NextWire.Wire.past ends.source_wire
          passed.source_wire after.source_wire
          ends.service passed.service after.service ends.next_wire
          passed.next_wire after.next_wire _ _ _ _ _ _ n
          c.counts-before.ensures.source c.counts.ensures.source c.counts-before.ensures.service c.counts.ensures.service
          c.counts-before.ensures.next c.counts.ensures.next
          pass.served c.after_pass.ensures.kept.1 c.after_pass.ensures.kept.2 c.after_pass.ensures.kept.3
          (said.moved n m ∙ c.since-moved.ensures);
      active = λ z p q r a b d.
          let o = (sym c.is_closed.ensures ∙ c.if-is_closed.false) in
          let e = m ∙ ap answers.Moved z in record {
            running = o;
            advances =
                let w = waiting_not c.pass-passed.result.waiting (said.active 0 e).0 in
                let k = none_over _ 0 refl (moves_of g.E.SourceWire.Wire.past g.E.ServiceWire.Wire.past g.E.NextWire.Wire.past
                ends.source_wire passed.source_wire passed.source_wire
                ends.service passed.service passed.service
                ends.next_wire passed.next_wire passed.next_wire _ _ _ _ _ _ 0
                c.counts-before.ensures.source c.counts.ensures.source c.counts-before.ensures.service c.counts.ensures.service
                c.counts-before.ensures.next c.counts.ensures.next
                pass.served refl refl refl (said.moved 0 e ∙ c.since-moved.ensures)) in
                subst (λ h. Advances (may_step c.args.side) held h) (sym c.after_pass.ensures.hold)
                (by_side c.args.side (λ side. Advances (may_step side) held c.pass-passed.new.self.hold)
                (λ s. let v = (pass.source s).active w p a in v.4 (k.0 p v.0 a v.1))
                (λ s. some_line g.E.ServiceWire.Wire.past ends.service passed.service _ q b k.1
                (λ n. false≢true (sym w ∙ (line_told (pass.service s)).absent n))
                ((line_told (pass.service s)).active w (said.active 0 e).1))
                (λ s. of_one _ _ _ _ (λ act. let v = act r d in v.4 (k.2 r v.0 d v.1)) (λ act. let v = act p a in v.4 (k.0 p v.0 a v.1))
                ((pass.next s).active w)));
          };
    })
    (λ b. let w = pass.any.breaks (said.broken b) in
    let k = breaks_kept (λ l. g.E.Client.Service.fault l.side) pace.reused c.pass-passed.new.self.hold
    c.after_pass.new.self.hold passed.service after.service c.after_pass.ensures.kept.2
    c.after_pass.ensures.hold w.2 in
    record { of_service = w.0; running = sym c.is_closed.ensures ∙ c.if-is_closed.false; may = k.0; why = inr k.1 })
    (λ outcome e. absurd (said.unfinished outcome e))

pub returns-then-is_closed-clause-answers : goal.returns-then-is_closed-clause-answers
returns-then-is_closed-clause-answers g c =
    let held = c.args.self.now.hold in
    let over = sym c.is_closed.ensures ∙ c.if-is_closed.true in
    let kept = c.closed_turn.ensures.kept in
    answer_on c.closed_turn.result _ _ c.closed_turn.ensures.answers
    (λ w. record { hold = kept.0; still = w.0; refusal = λ k. w.1; side = λ o. absurd (false≢true (sym o ∙ over)) })
    (λ n m. record {
      bytes = m.0;
      active = λ z p q r a b d.
          absurd (let k = none_over _ n z m.0 in
          let w = m.1 z in
          by_point held.history.plan.point ⊥
          (λ s. let v = w.0 s r d in v.4 (k.2 r v.0 d v.1))
          (λ s. let v = w.1 s p a in v.4 (k.0 p v.0 a v.1)));
    })
    (λ b. absurd b)
    (λ outcome f. record {
      closed = over;
      ended = f.0;
      refusal = f.1;
      done = λ d. done_told held c.closed_turn.new.self.hold c.args.self.now.outcome c.args.self.now.told kept.0 over
          (sym d ∙ f.0);
    })

pub returns-then-is_late-clause-answers : goal.returns-then-is_late-clause-answers
returns-then-is_late-clause-answers g c =
    let ends = c.args.self.now.ends in
    let failed = c.fail_by.new.self.ends in
    let held = c.args.self.now.hold in
    record {
      bytes = moves_none g.E.SourceWire.Wire.past g.E.ServiceWire.Wire.past g.E.NextWire.Wire.past ends.source_wire
          failed.source_wire
          ends.service failed.service ends.next_wire failed.next_wire _ _ _ 0
          c.counts-before.ensures.source c.counts-before.ensures.service c.counts-before.ensures.next c.fail_by.ensures.kept.0
          c.fail_by.ensures.kept.1 c.fail_by.ensures.kept.2 refl;
      active = λ z p q r a b d. record {
        running = sym c.is_closed.ensures ∙ c.if-is_closed.false;
        advances = fail_advances c.args.side held c.fail_by.new.self.hold Deadline
            (sym c.is_closed.ensures ∙ c.if-is_closed.false) c.fail_by.ensures.hold;
      };
    }

pub returns-clause-fails : goal.returns-clause-fails
returns-clause-fails g c =
    let ends = c.args.self.now.ends in
    let passed = c.pass-passed.new.self.ends in
    let after = c.after_pass.new.self.ends in
    let pace = c.args.self.now.pace in
    let pass = c.pass-passed.ensures in
    λ o.
    let why : (cause : Cause) → c.after_pass.new.self.outcome ≡ outcomes.Fail cause → c.pass-passed.result.failed ≡ Some cause =
    λ cause e. outcome_fails c.pass-passed.result.failed c.after_pass.new.self.outcome cause
    (c.after_pass.ensures.outcome ∙ pass.outcome) e in
    record {
      refuses = λ cause e. c.after_pass.ensures.refuses cause (why cause e);
      timely = λ e. elim (pass.any.of_side Deadline (why Deadline e)) [
        | inl b ↦ absurd b
        | inr m ↦ inr m
      ];
      unstopped = λ e. elim (pass.any.of_side Stopping (why Stopping e)) [
        | inl b ↦ absurd b
        | inr m ↦ m
      ];
      fails = λ cause e.
          let f = why cause e in
          let old = c.args.self.now in
          let mid = c.pass-passed.new.self in
          let new = c.after_pass.new.self in
          inr (for_side c.args.side _ _ _
          (λ s. record {
            blames = λ a. blamed_kept g.E.Reader.Source g.E.SourceWire.Wire (lending old.hold old.ends.source old.ends.source_wire)
                (lending mid.hold mid.ends.source mid.ends.source_wire) (lending new.hold new.ends.source new.ends.source_wire) cause
                c.after_pass.ensures.kept.0 c.after_pass.ensures.kept.1 (((pass.source s).blames cause f).0 a);
            disagrees = ((pass.source s).blames cause f).1;
            reason = cause_kept (λ z fault. g.E.Reader.Source.has_reason fault z) _ _ _ passed.source
                after.source (ap g.E.Reader.Source.fault c.after_pass.ensures.kept.0) c.after_pass.ensures.kept.0
                ((pass.source s).reason);
          })
          (λ s. record {
            held = λ n. none_some (sym (pass.any.idle ((line_told (pass.service s)).absent n)) ∙ f);
            blames = line_blamed_kept g.E.Client.Service g.E.ServiceWire.Wire old.ends.service mid.ends.service new.ends.service cause
                c.after_pass.ensures.kept.2 ((line_told (pass.service s)).blames cause f);
            unbroken = fails_kept g.E.Client.Service cause pace.reused (side_of ends.service)
                c.pass-passed.new.self.hold c.after_pass.new.self.hold passed.service
                after.service c.after_pass.ensures.hold c.after_pass.ensures.kept.2
                ((line_told (pass.service s)).unbroken cause f);
          })
          (λ s. elim ((pass.next s).blames cause f) [
            | inl u ↦ inl (record { chosen = u.0; next_idle = u.1; back_idle = u.2; reason = u.3 })
            | inr (inl v) ↦ inr (inl (writer_kept g.E.Writer.Hop g.E.NextWire.Wire (lending old.hold old.ends.next old.ends.next_wire)
                (lending mid.hold mid.ends.next mid.ends.next_wire) (lending new.hold new.ends.next new.ends.next_wire) cause
                c.after_pass.ensures.writers.0 c.after_pass.ensures.kept.3 v))
            | inr (inr v) ↦ inr (inr (writer_kept g.E.Writer.Hop g.E.SourceWire.Wire (lending old.hold old.ends.back old.ends.source_wire)
                (lending mid.hold mid.ends.back mid.ends.source_wire) (lending new.hold new.ends.back new.ends.source_wire) cause
                c.after_pass.ensures.writers.1 c.after_pass.ensures.kept.1 v))
          ]));
    }

pub returns-then-is_broken-clause-fails : goal.returns-then-is_broken-clause-fails
returns-then-is_broken-clause-fails g c =
    let held = c.args.self.now.hold in
    λ o.
    let never : (cause : Cause) → c.args.self.now.outcome ≡ outcomes.Fail cause → ⊥ =
    λ cause e. false≢true (sym o ∙ failed_over held.history c.args.self.now.outcome cause c.args.self.now.told e) in
    record {
      fails = λ cause e. absurd (never cause e);
      refuses = λ cause e. absurd (never cause e);
      timely = λ e. absurd (never Deadline e);
      unstopped = λ e. absurd (never Stopping e);
    }

pub returns-then-is_late-clause-fails : goal.returns-then-is_late-clause-fails
returns-then-is_late-clause-fails g c =
    let pace = c.args.self.now.pace in
    λ o.
    let n = c.fail_by.new.self in
    let p = n.hold.history.plan.point in
    let due : pace.last_moved + pace.deadline ≤ c.args.now = c.is_late.ensures.0 c.if-is_late.true in
    let of_it : (cause : Cause) → c.fail_by.new.self.outcome ≡ outcomes.Fail cause → Deadline ≡ cause =
    λ cause e. same_cause (sym c.fail_by.ensures.outcome ∙ e) in
    record {
      fails = λ cause e. inl (record { timely = sym (of_it cause e); late = due });
      refuses = λ cause e. subst (λ (z : Cause). HasRefusal (refusal_status z p)
          (user_view g.E.Writer.Hop p n.refusing n.ends.next n.ends.back)) (of_it cause e) c.fail_by.ensures.refuses;
      timely = λ e. inl due;
      unstopped = λ e. absurd (not_stopping (of_it Stopping e));
    }

pub returns-clause-paces : goal.returns-clause-paces
returns-clause-paces g c =
    let ends = c.args.self.now.ends in
    let passed = c.pass-passed.new.self.ends in
    let after = c.after_pass.new.self.ends in
    let pass = c.pass-passed.ensures in
    let a = c.after_pass.ensures in
    let before = ap (λ (z : Pace). z.last_moved) pass.pace in
    let was = ap (λ (z : Pace). z.broken) pass.pace in
    record {
      moment = elim a.clock.2 [
        | inl e ↦ inl (e ∙ before)
        | inr e ↦ inr e
      ];
      clock = λ o. (
        c.since-moved.result,
        moves_of g.E.SourceWire.Wire.past g.E.ServiceWire.Wire.past g.E.NextWire.Wire.past ends.source_wire
            passed.source_wire after.source_wire
            ends.service passed.service after.service
            ends.next_wire passed.next_wire after.next_wire _ _ _ _ _ _
            c.since-moved.result
            c.counts-before.ensures.source c.counts.ensures.source c.counts-before.ensures.service c.counts.ensures.service
            c.counts-before.ensures.next c.counts.ensures.next
            pass.served a.kept.1 a.kept.2 a.kept.3 c.since-moved.ensures,
        λ z. a.clock.0 z ∙ before,
        a.clock.1,
        λ m e. a.said.moved m e,
      );
      still = λ w. a.clock.0 (a.said.waiting w).1 ∙ before;
      rests = λ k. absurd (false≢true (sym (sym c.is_closed.ensures ∙ c.if-is_closed.false) ∙ k));
      limit = a.clock.3 ∙ ap (λ (z : Pace). z.deadline) pass.pace;
      marked = (
        λ t. elim (a.marked.0.0 t) [
          | inl b ↦ inl (sym was ∙ b)
          | inr s ↦ inr s
        ],
        λ w. elim w [
          | inl b ↦ a.marked.0.1 (inl (was ∙ b))
          | inr s ↦ a.marked.0.1 (inr s)
        ],
      );
      reused = a.marked.1 ∙ ap (λ (z : Pace). z.reused) pass.pace;
    }

pub returns-then-is_closed-clause-paces : goal.returns-then-is_closed-clause-paces
returns-then-is_closed-clause-paces g c =
    paces_still _ _ _ _ _ _ c.closed_turn.ensures.pace (λ b. absurd (not_broken c.closed_turn.result _ c.closed_turn.ensures.answers
    (λ none. none) b)) (λ o. absurd (false≢true (sym o ∙ (sym c.is_closed.ensures ∙ c.if-is_closed.true))))

pub returns-then-is_closed-clause-closed : goal.returns-then-is_closed-clause-closed
returns-then-is_closed-clause-closed g c = λ k. let e = c.closed_turn.ensures in
    record { hold = e.kept.0; outcome = e.kept.1; refusing = e.kept.2; finishes = e.finished; refuses = e.refuses }

pub returns-then-is_late-clause-paces : goal.returns-then-is_late-clause-paces
returns-then-is_late-clause-paces g c =
    let ends = c.args.self.now.ends in
    let failed = c.fail_by.new.self.ends in
    paces_still _ _ _ _ _ (answers.Moved 0) c.fail_by.ensures.pace (λ b. absurd (moved_not_broken b))
    (λ o. (
      moves_none g.E.SourceWire.Wire.past g.E.ServiceWire.Wire.past g.E.NextWire.Wire.past ends.source_wire
          failed.source_wire
          ends.service failed.service ends.next_wire failed.next_wire _ _
          _ 0
          c.counts-before.ensures.source c.counts-before.ensures.service c.counts-before.ensures.next c.fail_by.ensures.kept.0
          c.fail_by.ensures.kept.1 c.fail_by.ensures.kept.2 refl,
      λ m e. moved_same (sym e),
    ))

pub returns-then-is_broken-clause-paces : goal.returns-then-is_broken-clause-paces
returns-then-is_broken-clause-paces g c =
    let ends = c.args.self.now.ends in
    paces_still _ _ _ _ _ answers.Broken refl (λ b. (c.is_broken.ensures.0 c.if-is_broken.true).0)
    (λ o. (
      moves_none g.E.SourceWire.Wire.past g.E.ServiceWire.Wire.past g.E.NextWire.Wire.past ends.source_wire
          ends.source_wire ends.service ends.service ends.next_wire
          ends.next_wire _ _ _ 0
          c.counts-before.ensures.source c.counts-before.ensures.service c.counts-before.ensures.next refl refl refl refl,
      λ m e. absurd (moved_not_broken (sym e)),
    ))

pub returns-clause-keeps : goal.returns-clause-keeps
returns-clause-keeps g c =
    let ends = c.args.self.now.ends in
    let held = c.args.self.now.hold in
    let pass = c.pass-passed.ensures in
    record {
      running = λ o. record {
        took = subst (λ h. TookBy (may_step c.args.side) held h) (sym c.after_pass.ensures.hold)
            (by_side c.args.side (λ side. TookBy (may_step side) held c.pass-passed.new.self.hold)
            (λ s. (pass.source s).took) (λ s. (line_told (pass.service s)).took)
            (λ s. (pass.next s).took));
        others = for_side c.args.side _ _ _
            (λ s. let a = pass.apart_source s in record {
              service = c.after_pass.ensures.kept.2 ∙ a.0;
              next_wire = c.after_pass.ensures.kept.3 ∙ a.1;
              few = paced_kept _ (λ x. x.received) c.pass-passed.new.self.hold c.after_pass.new.self.hold c.after_pass.ensures.hold
                  ((pass.source s).paced);
              writers = λ n. let w = c.after_pass.ensures.same (unfailed c.pass-passed.result.failed c.after_pass.new.self.outcome
                  (c.after_pass.ensures.outcome ∙ pass.outcome) n) in record { next = w.0 ∙ a.2; back = w.1 ∙ a.3 };
            })
            (λ s. let a = pass.apart_service s in record {
              source = c.after_pass.ensures.kept.0 ∙ a.0;
              source_wire = c.after_pass.ensures.kept.1 ∙ a.1;
              next_wire = c.after_pass.ensures.kept.3 ∙ a.2;
              few = paced_kept _ (λ x. x.adapted_received) c.pass-passed.new.self.hold c.after_pass.new.self.hold c.after_pass.ensures.hold
                  ((line_told (pass.service s)).paced);
              writers = λ n. let w = c.after_pass.ensures.same (unfailed c.pass-passed.result.failed c.after_pass.new.self.outcome
                  (c.after_pass.ensures.outcome ∙ pass.outcome) n) in record { next = w.0 ∙ a.3; back = w.1 ∙ a.4 };
            })
            (λ s. let a = pass.apart_next s in record {
              source = c.after_pass.ensures.kept.0 ∙ a.0;
              service = c.after_pass.ensures.kept.2 ∙ a.1;
              one_wire = of_one _ _ _ _ (λ w. inl (c.after_pass.ensures.kept.1 ∙ w)) (λ w. inr (c.after_pass.ensures.kept.3 ∙ w))
                  ((pass.next s).elsewhere);
              other_wire = λ n.
                  let w = c.after_pass.ensures.same (unfailed c.pass-passed.result.failed c.after_pass.new.self.outcome
                  (c.after_pass.ensures.outcome ∙ pass.outcome) n) in
                  of_either _ _ _ _ _ _ (ap g.E.Writer.Hop.gift w.1) (λ v. c.after_pass.ensures.kept.1 ∙ v)
                  (λ v. c.after_pass.ensures.kept.3 ∙ v) ((pass.next s).elsewhere);
            });
        back = λ n m. let w = c.after_pass.ensures.writers.3 m in
            by_side c.args.side (λ side. answers_user (shows held.history)
            (response_of g.E.Client.Service.is_response ends.service) ≡ true)
            (λ s. absurd (idle_no_message _ n (sym (ap g.E.Writer.Hop.gift (pass.apart_source s).3) ∙ w)))
            (λ s. absurd (idle_no_message _ n (sym (ap g.E.Writer.Hop.gift (pass.apart_service s).4) ∙ w)))
            (λ s. (pass.next s).way.0 n w);
        next = λ n m. let w = c.after_pass.ensures.writers.2 m in
            by_side c.args.side (λ side. answers_user (shows held.history)
            (response_of g.E.Client.Service.is_response ends.service) ≡ false)
            (λ s. absurd (idle_no_message _ n (sym (ap g.E.Writer.Hop.gift (pass.apart_source s).2) ∙ w)))
            (λ s. absurd (idle_no_message _ n (sym (ap g.E.Writer.Hop.gift (pass.apart_service s).3) ∙ w)))
            (λ s. (pass.next s).way.1 n w);
      };
      closed = λ k. absurd (false≢true (sym (sym c.is_closed.ensures ∙ c.if-is_closed.false) ∙ k));
    }

pub returns-then-is_closed-clause-keeps : goal.returns-then-is_closed-clause-keeps
returns-then-is_closed-clause-keeps g c =
    let a = c.closed_turn.ensures.apart in
    record {
      running = λ o. absurd (false≢true (sym o ∙ (sym c.is_closed.ensures ∙ c.if-is_closed.true)));
      closed = λ k. record { source = a.0; service = a.1; source_wire = a.2; next_wire = a.3 };
    }

pub returns-then-is_late-clause-keeps : goal.returns-then-is_late-clause-keeps
returns-then-is_late-clause-keeps g c =
    let held = c.args.self.now.hold in
    let k = c.fail_by.ensures.kept in
    let failed : HasNotFailed c.fail_by.new.self.outcome → ⊥ = λ n. n Deadline c.fail_by.ensures.outcome in
    record {
      running = λ o. record {
        took = took_fail c.args.side held c.fail_by.new.self.hold Deadline (sym c.is_closed.ensures ∙ c.if-is_closed.false)
            c.fail_by.ensures.hold;
        others = for_side c.args.side _ _ _
            (λ s. record { service = k.1; next_wire = k.2; few = c.fail_by.ensures.paced.0; writers = λ n. absurd (failed n) })
            (λ s. record {
              source = k.3;
              source_wire = k.0;
              next_wire = k.2;
              few = c.fail_by.ensures.paced.1;
              writers = λ n. absurd (failed n);
            })
            (λ s. record { source = k.3; service = k.1; one_wire = inl k.0; other_wire = λ n. absurd (failed n) });
        back = λ n m. absurd (idle_no_message _ n (c.fail_by.ensures.messages.1 m));
        next = λ n m. absurd (idle_no_message _ n (c.fail_by.ensures.messages.0 m));
      };
      closed = λ k. absurd (false≢true (sym (sym c.is_closed.ensures ∙ c.if-is_closed.false) ∙ k));
    }

pub returns-then-is_broken-clause-keeps : goal.returns-then-is_broken-clause-keeps
returns-then-is_broken-clause-keeps g c = record {
  running = λ o. record {
    took = ([], tt, refl);
    others = for_side c.args.side _ _ _
        (λ s. record { service = refl; next_wire = refl; few = at_most _ _; writers = λ n. record { next = refl; back = refl } })
        (λ s. record {
          source = refl;
          source_wire = refl;
          next_wire = refl;
          few = at_most _ _;
          writers = λ n. record { next = refl; back = refl };
        })
        (λ s. record { source = refl; service = refl; one_wire = inl refl; other_wire = λ n. (λ e. refl, λ k. refl) });
    back = λ n m. absurd (idle_no_message _ n m);
    next = λ n m. absurd (idle_no_message _ n m);
  };
  closed = λ k. absurd (false≢true (sym (sym c.is_closed.ensures ∙ c.if-is_closed.false) ∙ k));
}

pub returns-clause-faultless : goal.returns-clause-faultless
returns-clause-faultless g c =
    let pace_after = c.after_pass.new.self.pace in
    let pass = c.pass-passed.ensures in
    λ o f.
    let p = pass in
    let a = c.after_pass.ensures in
    let mid = c.pass-passed.new.self in
    let n = not_failed c.pass-passed.result.failed _ p.any.over (ap (λ (h : Holding). (shows h.history).closed) (sym a.hold) ∙ o) in
    let of_line = fault_of (λ (l : ServiceEnd g.row.E-Client.Denot g.row.E-ServiceWire.Denot). g.E.Client.Service.fault l.side) in (
      ap g.E.Reader.Source.fault a.kept.0 ∙ by_side c.args.side (λ side. g.E.Reader.Source.fault mid.ends.source ≡ None)
          (λ s. (p.source s).sound n) (λ s. ap g.E.Reader.Source.fault (p.apart_service s).0 ∙ f.0)
          (λ s. ap g.E.Reader.Source.fault (p.apart_next s).0 ∙ f.0),
      λ b. ap of_line a.kept.2 ∙ (
          let before = f.1 (sym (ap (λ (z : Pace). z.broken) p.pace) ∙ unmarked_before mid.pace.broken pace_after.broken _
          a.marked.0 b) in
          by_side c.args.side (λ side. of_line mid.ends.service ≡ None)
          (λ s. ap of_line (p.apart_source s).0 ∙ before)
          (λ s. (line_told (p.service s)).sound n (unmarked_now c.pass-passed.result.broken mid.pace.broken
          pace_after.broken _ a.said.breaks a.marked.0 b) before)
          (λ s. ap of_line (p.apart_next s).1 ∙ before)),
      ap g.E.Writer.Hop.fault (a.same n).0 ∙ by_side c.args.side (λ side. g.E.Writer.Hop.fault mid.ends.next ≡ None)
          (λ s. ap g.E.Writer.Hop.fault (p.apart_source s).2 ∙ f.2) (λ s. ap g.E.Writer.Hop.fault (p.apart_service s).3 ∙ f.2)
          (λ s. ((p.next s).sound n).0 f.2),
      ap g.E.Writer.Hop.fault (a.same n).1 ∙ by_side c.args.side (λ side. g.E.Writer.Hop.fault mid.ends.back ≡ None)
          (λ s. ap g.E.Writer.Hop.fault (p.apart_source s).3 ∙ f.3) (λ s. ap g.E.Writer.Hop.fault (p.apart_service s).4 ∙ f.3)
          (λ s. ((p.next s).sound n).1 f.3),
    )

pub returns-then-is_closed-clause-faultless : goal.returns-then-is_closed-clause-faultless
returns-then-is_closed-clause-faultless g c = λ o f. absurd (false≢true
    (sym o ∙ (ap (λ (h : Holding). (shows h.history).closed) c.closed_turn.ensures.kept.0
    ∙ (sym c.is_closed.ensures ∙ c.if-is_closed.true))))

pub returns-then-is_broken-clause-faultless : goal.returns-then-is_broken-clause-faultless
returns-then-is_broken-clause-faultless g c = λ o f. f

pub returns-then-is_late-clause-faultless : goal.returns-then-is_late-clause-faultless
returns-then-is_late-clause-faultless g c = λ o f. absurd (false≢true (sym o ∙ c.fail_by.ensures.over))

pub returns-clause-told : goal.returns-clause-told
returns-clause-told g c =
    let pass = c.pass-passed.ensures in
    λ o s b n v.
    let m = unfailed c.pass-passed.result.failed c.after_pass.new.self.outcome
    (c.after_pass.ensures.outcome ∙ pass.outcome) n in
    ap (λ (h : Holding). (shows h.history).ended) c.after_pass.ensures.hold
    ∙ (pass.source s).told m (subst (λ z. g.E.Reader.Source.is_over z) c.after_pass.ensures.kept.0 v)

pub returns-then-is_closed-clause-told : goal.returns-then-is_closed-clause-told
returns-then-is_closed-clause-told g c = λ o s b n v. absurd (false≢true (sym o ∙ (sym c.is_closed.ensures ∙ c.if-is_closed.true)))

pub returns-then-is_late-clause-told : goal.returns-then-is_late-clause-told
returns-then-is_late-clause-told g c = λ o s b n v. absurd (n Deadline c.fail_by.ensures.outcome)

pub returns-then-is_broken-clause-told : goal.returns-then-is_broken-clause-told
returns-then-is_broken-clause-told g c = λ o s b n v. absurd (b refl)

pub after_pass-requires-clause-over : goal.after_pass-requires-clause-over
after_pass-requires-clause-over g c =
    let pass = c.pass-passed.ensures in
    pass.any.over
