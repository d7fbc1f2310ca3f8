-- A request's end and the message after it are those of its transaction; a response carries the configured lines of its service's answer.
use Rattle.std.proofs.Common.{◌≡◌, false, true, ap}
use Rattle.std.specs.Bool.{⊤}
use Rattle.adapt_sides.specs.Turns.Gift.{nothing}
use Rattle.adapt_turn.specs.declared.turn.Outcome.TheVariants.{Done}
use Rattle.shard_message.proofs.NextLemmas.{brings_told, ends_told, next_told, told_lines, withdrawn_told}
use Rattle.shard_message.proofs.settled.settle_request.Goals as goal

pub returns-clause-told : goal.returns-clause-told
returns-clause-told g c =
    let parts = c.into_parts-stake in
    rw c.settled_of.ensures.report
    (ends_told _ (λ ends. g.E.Writer.Hop.gift ends.back ≡ nothing) (λ ends.
    g.E.Reader.Asked.carries_on Done (g.E.Maker.MadeHead.closes ends.maker) ends.source) (λ _. ⊥)
    _ parts.result.ends c.args.tx.ends c.args.tx.outcome false _ _ c.after_request-sequel.result c.args.by c.report_on-report.result.end
    parts.ensures.ends ((λ (e : false ≡ true). absurd cc), (λ (x : ⊥). absurd x))
    (λ itself not. rw c.report_on-report.ensures.answered (rw parts.ensures.ends at
    (c.may_withdraw-may_withdraw.ensures.bars not itself))) (rw parts.ensures.outcome at
    (rw c.closes-closes.ensures at c.after_request-sequel.ensures.sequel))
    (rw (ap (λ s. s.plan) parts.ensures.seen) at c.report_on-report.ensures.itself))

pub returns-clause-withdrawn : goal.returns-clause-withdrawn
returns-clause-withdrawn g c = λ has_memory told.
    rw c.settled_of.ensures.report
    (rw c.report_on-report.ensures.answered
    (rw c.into_parts-stake.ensures.ends at
    (c.may_withdraw-may_withdraw.ensures.may (withdrawn_told _ _ _ _ _ _ _ has_memory c.after_request-sequel.result c.args.by
    c.report_on-report.result.end
    c.after_request-sequel.ensures.sequel c.report_on-report.ensures.ends c.report_on-report.ensures.itself
    (rw c.settled_of.ensures.report at told)))))

pub returns-clause-next : goal.returns-clause-next
returns-clause-next g c =
    next_told (g.E.Reader.Asked.is_response c.args.tx.ends.source) (g.E.Reader.Asked.is_next c.args.tx.ends.source)
    (g.E.Reader.Asked.is_again c.args.tx.ends.source)
    _ c.after_request-sequel.result c.args.by c.report_on-report.result.end _ _
    (rw c.into_parts-stake.ensures.ends at c.after_request-sequel.ensures.brings) c.report_on-report.ensures.ends
    c.report_on-report.ensures.itself
    (ap (λ r. r.end) c.settled_of.ensures.report) c.settled_of.ensures.message c.settled_of.ensures.none

-- the response goes on with the lines of the fields that the configuration names
pub returns-clause-carries : goal.returns-clause-carries
returns-clause-carries g c =
    let config = c.config.result.now in
    let lines = rw c.deref.ensures.value at (rw c.into_parts-stake.ensures.ends at c.carried_by-carried.ensures) in (
      config,
      c.config.ensures,
      next_told _ (λ _. ⊤) (λ _. ⊤) _ c.after_request-sequel.result c.args.by c.report_on-report.result.end _ _
          (brings_told _ _ c.after_request-sequel.result
          (λ message. told_lines (λ text. text.items) (g.E.Reader.Asked.told message) _ c.carried_by-carried.result lines)
          c.after_request-sequel.ensures.carries) c.report_on-report.ensures.ends c.report_on-report.ensures.itself
          (ap (λ r. r.end) c.settled_of.ensures.report) c.settled_of.ensures.message c.settled_of.ensures.none,
    )
