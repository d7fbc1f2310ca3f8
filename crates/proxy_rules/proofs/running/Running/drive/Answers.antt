-- Over the turns of a schedule the wires stay accounted for, and a failure is refused or a byte is out to the user.
use Rattle.std.proofs.Common.{ap, ◌∙◌}
use Rattle.std.proofs.Math.Logic.{∥∥₁_map}
use Rattle.adapt_hold.specs.Holding.{Holding, shows}
use Rattle.proxy_rules.proofs.RunLemmas.{runs_on}
use Rattle.proxy_rules.proofs.SinceLemmas.{since_goes}
use Rattle.proxy_rules.proofs.running.Running.drive.Goals as goal

pub invariant_of-self : goal.invariant_of-self
invariant_of-self g c =
    let e = c.drive.ensures in
    record {
      runs = ∥∥₁_map c.args.self.now.runs (runs_on _ _ _ _ _ _
          (λ s h. since_goes g.W.SourceWire.Wire g.W.ServiceWire.Wire g.W.NextWire.Wire s _ _ _ _ _ _ _ _ e.goes h)
          (λ h. ap (λ (x : Holding). (shows x.history).closed) (e.closed h).0 ∙ h) e.faultless (λ h. (e.closed h).1) e.refuses
          e.refuses_on);
    }

pub returns-clause-lasts : goal.returns-clause-lasts
returns-clause-lasts g c = λ s h. since_goes g.W.SourceWire.Wire g.W.ServiceWire.Wire g.W.NextWire.Wire s _ _ _ _ _ _ _ _
    c.drive.ensures.goes h
