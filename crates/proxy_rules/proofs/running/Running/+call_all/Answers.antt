-- The wires and the service's connection are accounted for over the first call, and then over those after it.
use Rattle.std.proofs.Common.{subst}
use Rattle.proxy_rules.specs.Calls.{IsLine}
use Rattle.proxy_rules.proofs.CallLemmas.{lines_more}
use Rattle.proxy_rules.proofs.running.Running.+call_all.Goals as goal

pub returns-in-len1-up : goal.returns-in-len1-up
returns-in-len1-up g t c = record {
  renews = λ s h.
      let w = c.call.ensures.renews s h in
      let v = c.call_all.ensures.renews (record s { line = w.0; given = w.1 }) w.3 in (
        v.0,
        v.1,
        lines_more s.line w.0 v.0 c.args.calls.now c.result-item.result c.in-len1-up.len_at_least
            (subst (λ z. IsLine s.line z w.0) c.result-item.is w.2) v.2,
        v.3,
      );
}
