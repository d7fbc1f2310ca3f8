-- A text is cut right before its first space; of one with no space the first part is all, and the second is empty.
use Rattle.std.proofs.Common.{◌∙◌, sym, rules}
use Rattle.std.proofs.Math.Seq.{take-length, drop-length}
use Rattle.proxy_commands.proofs.Cuts.{up_to_space-at, up_to_space-all}
use Rattle.proxy_commands.proofs.plan_line.split_at_space.Goals as goal

pub returns-in-Some-clause-front : goal.returns-in-Some-clause-front
returns-in-Some-clause-front c = c.split_at.ensures.front ∙ sym (up_to_space-at c.args.text.now c.in-Some.end (search rules) (search rules)
    (search rules)).0

pub returns-in-Some-clause-back : goal.returns-in-Some-clause-back
returns-in-Some-clause-back c = c.split_at.ensures.back ∙ sym (up_to_space-at c.args.text.now c.in-Some.end (search rules) (search rules)
    (search rules)).1

pub returns-in-None-clause-front : goal.returns-in-None-clause-front
returns-in-None-clause-front c = c.split_at-in-None.ensures.front ∙ take-length c.args.text.now
    ∙ sym (up_to_space-all c.args.text.now (search rules)).0

pub returns-in-None-clause-back : goal.returns-in-None-clause-back
returns-in-None-clause-back c = c.split_at-in-None.ensures.back ∙ drop-length c.args.text.now
    ∙ sym (up_to_space-all c.args.text.now (search rules)).1
