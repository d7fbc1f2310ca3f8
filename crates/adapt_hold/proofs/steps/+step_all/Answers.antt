-- After the first event the others may run, and together they are all the events; where there is none, all stays as it was.
use Rattle.std.proofs.Common.{rules, ◌<◌, length, take, drop, ◌-◌}
use Rattle.adapt_hold.specs.Steps.{MayRun}
use Rattle.adapt_hold.proofs.Row.{none_left_at, run_rest_at, one_more_at, shorter}
use Rattle.adapt_hold.proofs.steps.+step_all.Goals as goal

pub returns-in-empty-clause-stepped : goal.returns-in-empty-clause-stepped
returns-in-empty-clause-stepped g t c = none_left_at c.args.hold.now c.args.events.now c.args.bytes.now c.in-empty.len_below

pub step_all-requires : goal.step_all-requires
step_all-requires g t c κs within =
    let less : length (take (length c.args.events.now - 1) (drop 1 c.args.events.now)) < length c.args.events.now =
    shorter c.args.events.now c.in-len1-up.len_at_least in
    let run : MayRun c.step_one.new.hold (take (length c.args.events.now - 1) (drop 1 c.args.events.now)) c.split_at.result.1.now =
    run_rest_at c.args.hold.now c.step_one.new.hold c.args.events.now c.args.bytes.now c.split_at.result.0.now c.split_at.result.1.now
    c.brought.result
    c.state-state.ensures.tied c.requires c.in-len1-up.len_at_least c.brought.ensures c.split_at.ensures.front c.split_at.ensures.back
    c.step_one.ensures.stepped c.step_one.ensures.roomy in
    search rules

pub returns-in-len1-up-clause-stepped : goal.returns-in-len1-up-clause-stepped
returns-in-len1-up-clause-stepped g t c =
    one_more_at c.args.hold.now c.step_one.new.hold c.step_all.new.hold c.args.events.now c.args.bytes.now c.split_at.result.0.now
    c.split_at.result.1.now c.brought.result
    c.in-len1-up.len_at_least c.brought.ensures c.split_at.ensures.front c.split_at.ensures.back
    c.step_one.ensures.stepped c.step_all.ensures.stepped
