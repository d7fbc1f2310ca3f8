-- After all calls the wires gave and took the texts of one message, the service's since its request began on it.
use Rattle.std.proofs.Common.{Bool, subst}
use Rattle.proxy_rules.specs.Beginnings.{MayBegin}
use Rattle.proxy_rules.proofs.SinceLemmas.{since_part}
use Rattle.proxy_rules.proofs.laws.over_all_calls_the_wires_take_one_message.Goals as goal

pub begin-running-requires-clause-may : goal.begin-running-requires-clause-may
begin-running-requires-clause-may g c =
    subst (λ (connected : Bool). MayBegin c.args.beginning.message c.args.beginning.offer connected) c.is_some-is_connected.ensures
    (c.may_begin.ensures.0 c.if-not-may_begin.false)

pub returns-clause-took : goal.returns-clause-took
returns-clause-took g c = λ first ahead since beside came.
    let w = c.call_all.ensures.renews _ (c.begin-running.ensures.since first ahead since beside came) in (
      w.0,
      w.1,
      w.2,
      since_part g.W.SourceWire.Wire g.W.ServiceWire.Wire g.W.NextWire.Wire _ _ _ _ _ _ c.the_wires_take_one_message.ensures.took w.3,
    )
