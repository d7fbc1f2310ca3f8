-- At each turn one lent connection fewer is left.
use Rattle.std.specs.Prelude.{length}
use Rattle.layer_rows.proofs.resources.lines.steps.Play.close_all.Given as goal

abbrev pub decreases-loop-connection : goal.decreases-loop-connection
decreases-loop-connection g l = length l.self.held.items
