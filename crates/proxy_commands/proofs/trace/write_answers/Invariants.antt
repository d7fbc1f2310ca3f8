-- The text so far and the output for the lines that are left make the output of the script.
use Rattle.std.proofs.Common.{◌≡◌, ◌++◌, [], drop}
use Rattle.trace_core.specs.History.{seen, shows}
use Rattle.proxy_commands.specs.Answers.{output_from}
use Rattle.proxy_commands.proofs.trace.write_answers.Given as goal

abbrev pub invariant-loop-line : goal.invariant-loop-line
invariant-loop-line l =
    l.out.items ++ output_from (shows l.state) (drop l.line-index l.script.lines.items)
    ≡ output_from (seen l.script.plan []) l.script.lines.items
