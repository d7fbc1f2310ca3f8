-- The line is the number of all answers with its words, and then that of those that broke a rule.
use Rattle.service_probe.proofs.Texts.{two_parts}
use Rattle.service_probe.proofs.bench.put_tally.Goals as goal

pub returns : goal.returns
returns c =
    two_parts c.put_counted-2.result c.put_counted-2.new.out.items c.put_counted.new.out.items c.args.out.now.items _ _
    c.in_ok-put_counted.ensures c.put_counted-2.ensures
