-- An attempt's line is what was tried, and then what came of it.
use Rattle.service_probe.proofs.Texts.{two_parts}
use Rattle.service_probe.proofs.report.put_attempt.Goals as goal

pub returns : goal.returns
returns c =
    two_parts c.put_answer.result c.put_answer.new.out.items c.put_trial.new.out.items c.args.out.now.items _ _
    c.in_ok-put_trial.ensures c.put_answer.ensures
