-- Some message may have a layout just where its heads go with its body and its offsets rise from 0.
use Rattle.std.proofs.Common.{sym, ◌∙◌}
use Rattle.std.proofs.lemmas.Bool.{both_ways}
use Rattle.encapsulated.proofs.Writable.{fits, writable}
use Rattle.encapsulated.proofs.offsets.Layout.is_writable.Goals as goal

pub returns-then-heads_fit : goal.returns-then-heads_fit
returns-then-heads_fit c = (
  λ rises. writable c.args.self.now (sym c.heads_fit.ensures ∙ c.if-heads_fit.true) (c.rises.ensures.0 rises),
  λ may. c.rises.ensures.1 may.2.rises,
)

pub returns-else-heads_fit : goal.returns-else-heads_fit
returns-else-heads_fit c = (
  λ fit. absurd (both_ways c.heads_fit.result c.if-heads_fit.false fit),
  λ may. c.heads_fit.ensures ∙ fits c.args.self.now may,
)
