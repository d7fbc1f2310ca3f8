-- A turn and the turns after it are those of the whole schedule; an empty one leaves all as it was.
use Rattle.std.proofs.Common.{◌≡◌, inl, inr, true, arith, sym, ◌∙◌, subst, ap}
use Rattle.trace_core.specs.declared.history.Cause.TheVariants.{Deadline}
use Rattle.adapt_hold.specs.Holding.{Holding, shows}
use Rattle.adapt_turn.proofs.Told.{failed_over, same_moment, timely_then}
use Rattle.adapt_turn.proofs.Together.{goes_none, goes_then}
use Rattle.std.proofs.lemmas.Bool.{false≢true}
use Rattle.adapt_turn.proofs.Refusals.{by_closed}
use Rattle.adapt_turn.proofs.Faultless.{open_where}
use Rattle.adapt_turn.proofs.TurnAnswers.{drives_none, drives_more}
use Rattle.adapt_turn.proofs.tx.Tx.+drive.Goals as goal

pub returns-in-empty-clause-goes : goal.returns-in-empty-clause-goes
returns-in-empty-clause-goes g t c = goes_none

pub returns-in-len1-up : goal.returns-in-len1-up
returns-in-len1-up g t c =
    let turned = c.turn.new.self.hold in
    let turn = c.turn.ensures in
    record {
      goes = goes_then turn.goes c.drive.ensures.goes;
      timed = (c.drive.ensures.timed.0 ∙ same_moment _ _ turn.paces.moment, c.drive.ensures.timed.1 ∙ turn.paces.limit);
      turns = drives_more _ _ c.turn.new.self _ c.args.schedule.now _ c.in-len1-up.len_at_least (
        c.turn.result,
        turn.answers,
        turn.keeps,
        turn.paces.marked,
        turn.paces.reused,
        turn.faultless,
        λ o. (turn.fails o).fails,
      ) c.drive.ensures.turns;
      closed = λ e. (let w = turn.closed e in
          let v = c.drive.ensures.closed (subst (λ (y : Holding). (shows y.history).closed ≡ true) (sym w.hold) e) in
          (v.0 ∙ w.hold, v.1 ∙ w.outcome, v.2 ∙ w.refusing));
      deadline = λ o d n. (let w = turn.deadline o (omega (arith, d)) in
          let v = c.drive.ensures.closed (failed_over turned.history c.turn.new.self.outcome Deadline c.turn.new.self.told w.2) in
          (v.0 ∙ w.0, v.1 ∙ w.2));
      refuses = λ o cause e. by_closed (shows turned.history).closed _
          (λ k. c.drive.ensures.refuses_on k cause ((turn.fails o).refuses cause (sym (c.drive.ensures.closed k).1 ∙ e)))
          (λ k. c.drive.ensures.refuses k cause e);
      refuses_on = λ k cause w. c.drive.ensures.refuses_on (ap (λ (y : Holding). (shows y.history).closed) (turn.closed k).hold ∙ k)
          cause ((turn.closed k).refuses cause w);
      faultless = λ o f. c.drive.ensures.faultless o (turn.faultless
          (open_where (shows turned.history).closed (λ k. false≢true
          (sym o ∙ (ap (λ (y : Holding). (shows y.history).closed) (c.drive.ensures.closed k).0 ∙ k)))) f);
      unstopped = λ clean o e. by_closed (shows turned.history).closed ⊥
          (λ k. clean _ _ _ _ _ ((turn.fails o).unstopped (sym (c.drive.ensures.closed k).1 ∙ e)).1)
          (λ k. c.drive.ensures.unstopped clean k e);
      timely = λ clean o e. timely_then (shows turned.history).closed _ c.turn.new.self.outcome c.drive.new.self.outcome
          (λ f. elim ((turn.fails o).timely f) [
            | inl l ↦ omega (arith, l)
            | inr m ↦ absurd (clean _ _ _ _ _ m.1)
          ])
          (λ f. (c.drive.ensures.closed f).1) (λ f. sym turn.paces.limit ∙ c.drive.ensures.timely clean f e) e;
    }

pub returns-in-empty-clause-refuses : goal.returns-in-empty-clause-refuses
returns-in-empty-clause-refuses g t c =
    let held = c.args.self.now.hold in
    λ o cause e. absurd (false≢true
    (sym o ∙ failed_over held.history c.args.self.now.outcome cause c.args.self.now.told e))

pub returns-in-empty-clause-turns : goal.returns-in-empty-clause-turns
returns-in-empty-clause-turns g t c = drives_none _ _ c.args.schedule.now c.in-empty.len_below
