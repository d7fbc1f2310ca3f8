-- A retry leaves the transaction open; nothing went over the fresh connection yet, and the other wires stay accounted for.
use Rattle.std.proofs.Math.Logic.{∥∥₁_map}
use Rattle.proxy_rules.specs.Since.{anew_on}
use Rattle.adapt_turn.specs.ChosenHead.{wire_of}
use Rattle.proxy_rules.proofs.RunLemmas.{retry_open, not_both}
use Rattle.proxy_rules.proofs.SinceLemmas.{since_anew}
use Rattle.proxy_rules.proofs.running.Running.retry.Goals as goal

pub invariant_of-self : goal.invariant_of-self
invariant_of-self g c =
    let retried = c.retry.new.self.ends in
    let before = c.args.self.now.tx in
    let e = c.retry.ensures in
    record {
      runs = ∥∥₁_map c.args.self.now.runs (λ r. record {
        start = anew_on (wire_of retried.service) r.start;
        since_is = since_anew g.W.SourceWire.Wire g.W.ServiceWire.Wire g.W.NextWire.Wire r.start _ _ _ _
            before.ends.service retried.service
            _ _ e.anew e.others.0 e.others.1 r.since_is;
        faultless_is = λ going. e.faultless (r.faultless_is c.requires.may.0);
        refused_is = λ over. not_both _ over (retry_open _ _ c.seen.ensures.tied c.requires.may e.hold);
      });
    }

pub returns-clause-lasts : goal.returns-clause-lasts
returns-clause-lasts g c =
    let retried = c.retry.new.self.ends in
    let before = c.args.self.now.tx in
    λ s h.
    let e = c.retry.ensures in
    since_anew g.W.SourceWire.Wire g.W.ServiceWire.Wire g.W.NextWire.Wire s _ _ _ _
    before.ends.service retried.service _ _ e.anew e.others.0 e.others.1 h
