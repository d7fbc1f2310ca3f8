-- Before the first event nothing is held, so the claim has a window free where an adapted body may come.
use Rattle.std.proofs.Common.{sym, subst}
use Rattle.plan_rules.proofs.Paced.{paces-begin}
use Rattle.adapt_hold.specs.Holding.{Holding, IsRoomy}
use Rattle.adapt_turn.proofs.tx.begin_hold.Goals as goal

pub returns-clause-roomy : goal.returns-clause-roomy
returns-clause-roomy g c =
    subst (λ (h : Holding). IsRoomy h) (sym c.new.ensures) (paces-begin c.args.plan c.args.limits.window).roomy
