-- At each turn one fewer of the things lent is left.
use Rattle.std.specs.Prelude.{vec_len}
use Rattle.layer_rows.proofs.resources.steps.end_all.Given as goal

abbrev pub decreases-loop-lent : goal.decreases-loop-lent
decreases-loop-lent g l = vec_len l.all
