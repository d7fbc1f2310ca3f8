-- What is written is the answer to the line, and what is shown after it is what the answer leaves.
use Rattle.std.proofs.Common.{◌≡◌, ◌∙◌, ◌++◌, ℕ, List, OnOk, ap, sym, subst}
use Rattle.trace_core.specs.History.{shows}
use Rattle.proxy_commands.specs.Answers.{answer_text, line_output}
use Rattle.proxy_commands.proofs.trace.answer_line.Goals as goal

pub returns-in-Step-clause-text : goal.returns-in-Step-clause-text
returns-in-Step-clause-text c =
    let text = ap answer_text c.answer_event.ensures.answer ∙ sym (ap (line_output (shows c.args.state.now)) c.in-Step.is) in
    subst (λ (t : List ℕ). OnOk c.write_answer.result (c.write_answer.new.out.items ≡ c.args.out.now.items ++ t)) text
    c.write_answer.ensures
