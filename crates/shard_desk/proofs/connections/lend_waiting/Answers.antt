-- What is lent in its turn is of the point and leads to its service; the acts before tell how it was got, or what failed.
use Rattle.std.proofs.Common.{◌∙◌}
use Rattle.std.proofs.lemmas.Result.{IfOk-weaker}
use Rattle.shard_desk.proofs.Asking.{lends_within}
use Rattle.shard_desk.proofs.connections.lend_waiting.Goals as goal

pub returns-clause-point : goal.returns-clause-point
returns-clause-point g c = c.lent_of.ensures.point c.args.point c.lend_in_turn-lent.ensures.point

pub returns-clause-leads : goal.returns-clause-leads
returns-clause-leads g c = IfOk-weaker c.lent_of.result _ _ (λ lent leads.
    (c.config.result.now, c.config.ensures, leads ∙ c.address_of-place.ensures))
    (c.lent_of.ensures.leads c.address_of-place.result c.lend_in_turn-lent.ensures.leads)

pub returns-clause-lends : goal.returns-clause-lends
returns-clause-lends g c = IfOk-weaker c.lent_of.result _ _ (λ lent lends. (
  c.pools_of.ensures.idle.0,
  c.pools_of.ensures.idle.1,
  lends_within c.pools_of.ensures.idle.2 lends,
)) (c.lent_of.ensures.lends _ _ _ c.port_of-port.result.berth.asked _ c.port_of-port.ensures c.lend_in_turn-lent.ensures.lends)

pub returns-clause-fails : goal.returns-clause-fails
returns-clause-fails g c = c.lent_of.ensures.fails _ _ _ c.port_of-port.result.berth.asked _ c.port_of-port.ensures
    c.lend_in_turn-lent.ensures.lends
