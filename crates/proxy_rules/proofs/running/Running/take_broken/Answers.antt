-- The wires stay accounted for, the broken connection as it was when given up, and a refusal stands as before.
use Rattle.std.proofs.Common.{ap, sym, ◌∙◌}
use Rattle.std.proofs.Math.Logic.{∥∥₁_map}
use Rattle.adapt_hold.specs.Holding.{Holding, shows}
use Rattle.proxy_rules.specs.Since.{given_up}
use Rattle.proxy_rules.proofs.RunLemmas.{refuses_by}
use Rattle.proxy_rules.proofs.SinceLemmas.{since_broken}
use Rattle.proxy_rules.proofs.running.Running.take_broken.Goals as goal

pub invariant_of-self : goal.invariant_of-self
invariant_of-self g c =
    let before = c.args.self.now.tx in
    let after = c.take_broken.new.self in
    let e = c.take_broken.ensures in
    let same = ap (λ (x : Holding). (shows x.history).closed) e.kept.0 in
    record {
      runs = ∥∥₁_map c.args.self.now.runs (λ r. record {
        start = given_up c.take_broken.result r.start;
        since_is = since_broken g.W.SourceWire.Wire g.W.ServiceWire.Wire g.W.NextWire.Wire r.start _ _ _ _
            before.ends.service after.ends.service _ _
            c.take_broken.result e.wire e.stands (ap (λ z. z.source_wire) e.apart) e.taken (ap (λ z. z.next_wire) e.apart) r.since_is;
        faultless_is = λ going. e.faultless (r.faultless_is (sym same ∙ going));
        refused_is = λ over cause ended.
            refuses_by cause _ _ _ _ _ _ _ _ e.kept.0 e.kept.2 (ap (λ z. z.next) e.apart) (ap (λ z. z.back) e.apart)
            (r.refused_is (sym same ∙ over) cause (sym e.kept.1 ∙ ended));
      });
    }

pub returns-clause-lasts : goal.returns-clause-lasts
returns-clause-lasts g c =
    let before = c.args.self.now.tx in
    let after = c.take_broken.new.self in
    λ s h.
    let e = c.take_broken.ensures in
    since_broken g.W.SourceWire.Wire g.W.ServiceWire.Wire g.W.NextWire.Wire s _ _ _ _
    before.ends.service after.ends.service _ _
    c.take_broken.result e.wire e.stands (ap (λ z. z.source_wire) e.apart) e.taken (ap (λ z. z.next_wire) e.apart) h
