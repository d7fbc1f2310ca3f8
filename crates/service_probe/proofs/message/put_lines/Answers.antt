-- A line that is added is the first of those that were still left.
use Rattle.std.proofs.Common.{◌∙◌}
use Rattle.service_probe.proofs.Texts.{grown, lines_left}
use Rattle.service_probe.proofs.message.put_lines.Goals as goal

pub loop-line-preserved : goal.loop-line-preserved
loop-line-preserved c = grown _ _ _ _ _ c.in_ok-extend_from_slice.ensures.items
    (lines_left c.args.count c.loop-line._line c.loop-line-test.true) ∙ c.loop-line.invariant
