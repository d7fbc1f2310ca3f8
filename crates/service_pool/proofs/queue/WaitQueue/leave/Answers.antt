-- All but the one that leaves are kept.
use Rattle.std.proofs.Common.{rules}
use Rattle.std.proofs.lemmas.Fn.{filter_same}
use Rattle.service_pool.specs.Waiting.{is_another}
use Rattle.service_pool.proofs.queue.WaitQueue.leave.Goals as goal

pub returns-then-was_first-clause-others : goal.returns-then-was_first-clause-others
returns-then-was_first-clause-others c =
    filter_same _ (is_another c.args.waiter) _ (λ x b f k. search rules) _ _ c.retain.ensures.filtered

pub returns-else-was_first-clause-others : goal.returns-else-was_first-clause-others
returns-else-was_first-clause-others c =
    filter_same _ (is_another c.args.waiter) _ (λ x b f k. search rules) _ _ c.retain.ensures.filtered
