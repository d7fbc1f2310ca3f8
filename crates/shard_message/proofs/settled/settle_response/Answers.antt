-- A response ends as its transaction did, and only the next request of its user comes after it.
use Rattle.std.proofs.Common.{false, ap}
use Rattle.std.specs.Bool.{⊤}
use Rattle.adapt_turn.specs.declared.turn.Outcome.TheVariants.{Done}
use Rattle.shard_message.specs.Ended.{IfAsked}
use Rattle.shard_message.proofs.NextLemmas.{ends_told, next_told}
use Rattle.shard_message.proofs.settled.settle_response.Goals as goal

pub returns-clause-told : goal.returns-clause-told
returns-clause-told g c =
    let parts = c.into_parts-stake in
    rw c.settled_of.ensures.report
    (ends_told _ (λ _. ⊥) (λ ends. IfAsked (g.E.Reader.Asked.carries_on Done (g.E.Maker.MadeHead.closes ends.maker))
    (g.E.Maker.MadeHead.asked ends.maker))
    (λ ends. g.E.Reader.Answers.lasts c.args.tx.outcome ends.source)
    ⊤ parts.result.ends c.args.tx.ends c.args.tx.outcome c.lasts-lasts.result false _ c.after_response-sequel.result c.args.by
    c.report_on-report.result.end
    parts.ensures.ends (rw parts.ensures.outcome at c.lasts-lasts.ensures) (λ itself not. tt)
    (rw parts.ensures.outcome at (rw c.into_asked.ensures at (rw c.closes-closes.ensures at c.after_response-sequel.ensures.sequel)))
    (rw (ap (λ s. s.plan) parts.ensures.seen) at c.report_on-report.ensures.itself))

pub returns-clause-next : goal.returns-clause-next
returns-clause-next g c =
    next_told (λ _. ⊥) (λ next. IfAsked (λ user. g.E.Reader.Asked.is_next user next) (g.E.Maker.MadeHead.asked c.args.tx.ends.maker))
    (λ _. ⊥)
    _ c.after_response-sequel.result c.args.by c.report_on-report.result.end _ _
    (rw c.into_parts-stake.ensures.ends at (rw c.into_asked.ensures at c.after_response-sequel.ensures.brings))
    c.report_on-report.ensures.ends c.report_on-report.ensures.itself (ap (λ r. r.end) c.settled_of.ensures.report)
    c.settled_of.ensures.message c.settled_of.ensures.none
