-- What is accounted for at the beginning is so after all turns: the wires gave and took the texts of one message.
use Rattle.std.proofs.Common.{Bool, subst}
use Rattle.proxy_rules.specs.Beginnings.{MayBegin}
use Rattle.proxy_rules.proofs.SinceLemmas.{since_part}
use Rattle.proxy_rules.proofs.laws.from_the_beginning_the_wires_take_one_message.Goals as goal

pub begin-running-requires-clause-may : goal.begin-running-requires-clause-may
begin-running-requires-clause-may g c =
    subst (λ (connected : Bool). MayBegin c.args.beginning.message c.args.beginning.offer connected) c.is_some-is_connected.ensures
    (c.may_begin.ensures.0 c.if-not-may_begin.false)

pub returns-clause-took : goal.returns-clause-took
returns-clause-took g c = λ first ahead since beside came.
    since_part g.W.SourceWire.Wire g.W.ServiceWire.Wire g.W.NextWire.Wire _ _ _ _ _ _ c.the_wires_take_one_message.ensures.took
    (c.take_turns.ensures.lasts _ (c.begin-running.ensures.since first ahead since beside came))
