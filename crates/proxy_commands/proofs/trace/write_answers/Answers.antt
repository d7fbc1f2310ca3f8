-- With no line left, what is written is all that is printed for the script.
use Rattle.std.proofs.Common.{◌∙◌, ◌++◌, [], ap, sym, rules}
use Rattle.std.proofs.lemmas.List.{append-nil, at_drop_all}
use Rattle.trace_core.specs.History.{shows}
use Rattle.proxy_commands.specs.Answers.{output_from}
use Rattle.proxy_commands.proofs.Steps.{output_same}
use Rattle.proxy_commands.proofs.trace.write_answers.Goals as goal

pub returns : goal.returns
returns c =
    let script = c.args.script.now in
    let lines = script.lines.items in
    let plan = script.plan in
    let done = at_drop_all (output_from (shows c.loop-line.state)) lines c.loop-line.line-index (search rules) in
    sym (ap (λ t. c.loop-line.out.items ++ t) done ∙ append-nil c.loop-line.out.items) ∙ c.loop-line.invariant ∙ output_same plan [] lines
