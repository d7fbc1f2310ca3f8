-- The head is made for the user's request that was read, by what the history shows and whether the user's connection carries on.
use Rattle.std.proofs.Common.{sym, ap}
use Rattle.trace_core.specs.History.{shows}
use Rattle.proxy_rules.proofs.HeadLemmas.{makes, was_read}
use Rattle.proxy_rules.proofs.head_maker.HeadMaker.make.Goals as goal

pub returns-clause-ok : goal.returns-clause-ok
returns-clause-ok c = makes c.chosen.result c.args.self.now.origin c.args.self.now.last c.args.self.now.user c.args.source.now.head
    (shows c.args.state.now) _ c.args.is_response
    c.in-Some.user.now c.carries_on.result c.seen-has_body.result.has_body
    (sym c.in-Some.ensures) (c.carries_on.ensures (was_read c.args.self.now.user c.args.source.now.head c.in-Some.user.now
    (sym c.in-Some.ensures))) (ap (λ s. s.has_body) c.seen-has_body.ensures)
    c.chosen.ensures.ok
