-- A halt fails what is open as Stopping and leaves what is closed as it ended; the wires stay accounted for.
use Rattle.std.proofs.Math.Logic.{∥∥₁_map}
use Rattle.trace_core.specs.declared.history.Cause.TheVariants.{Stopping}
use Rattle.proxy_rules.proofs.RunLemmas.{runs_failed}
use Rattle.proxy_rules.proofs.SinceLemmas.{since_goes}
use Rattle.proxy_rules.proofs.running.Running.halt.Goals as goal

pub invariant_of-self : goal.invariant_of-self
invariant_of-self g c =
    let e = c.halt.ensures in
    record {
      runs = ∥∥₁_map c.args.self.now.runs (runs_failed _ _ _ _ _ _ Stopping
          (λ s h. since_goes g.W.SourceWire.Wire g.W.ServiceWire.Wire g.W.NextWire.Wire s _ _ _ _ _ _ _ _ e.goes h)
          e.over (λ h. (e.closed h).1) (λ h. (e.halted h).1) e.refuses (λ h cause r. rw (e.still h) r));
    }

pub returns-clause-lasts : goal.returns-clause-lasts
returns-clause-lasts g c = λ s h. since_goes g.W.SourceWire.Wire g.W.ServiceWire.Wire g.W.NextWire.Wire s _ _ _ _ _ _ _ _
    c.halt.ensures.goes h
