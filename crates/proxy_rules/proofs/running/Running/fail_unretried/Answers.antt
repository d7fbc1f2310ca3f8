-- What may retry is open, so it fails for this cause; the wires stay accounted for.
use Rattle.std.proofs.Math.Logic.{∥∥₁_map}
use Rattle.proxy_rules.proofs.RunLemmas.{runs_failed, not_both}
use Rattle.proxy_rules.proofs.SinceLemmas.{since_goes}
use Rattle.proxy_rules.proofs.running.Running.fail_unretried.Goals as goal

pub invariant_of-self : goal.invariant_of-self
invariant_of-self g c =
    let e = c.fail_unretried.ensures in
    record {
      runs = ∥∥₁_map c.args.self.now.runs (runs_failed _ _ _ _ _ _ c.args.cause
          (λ s h. since_goes g.W.SourceWire.Wire g.W.ServiceWire.Wire g.W.NextWire.Wire s _ _ _ _ _ _ _ _ e.goes h)
          e.over (λ h. not_both _ h c.requires.may.0) (λ h. e.outcome) (λ h. e.refuses) (λ h cause r. not_both _ h c.requires.may.0));
    }

pub returns-clause-lasts : goal.returns-clause-lasts
returns-clause-lasts g c = λ s h. since_goes g.W.SourceWire.Wire g.W.ServiceWire.Wire g.W.NextWire.Wire s _ _ _ _ _ _ _ _
    c.fail_unretried.ensures.goes h
