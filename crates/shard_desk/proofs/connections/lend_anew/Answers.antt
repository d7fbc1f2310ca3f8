-- A fresh connection was opened last, and leads to where the configuration has the service of the lease's point.
use Rattle.std.proofs.Common.{ap, sym, ◌∙◌}
use Rattle.std.proofs.lemmas.Result.{IfOk-weaker}
use Rattle.shard_desk.specs.Places.{place_at}
use Rattle.shard_desk.proofs.Asking.{reopens_by}
use Rattle.shard_desk.proofs.connections.lend_anew.Goals as goal

-- the place was that of the lease's point, which is the same afterwards
pub returns-clause-leads : goal.returns-clause-leads
returns-clause-leads g c = IfOk-weaker c.reopen-wire.result _ _ (λ wire leads. (
  c.config.result.now,
  c.config.ensures,
  leads ∙ (c.address_of-place.ensures ∙ ap (place_at c.config.result.now) (c.point.ensures ∙ sym c.reopen-wire.ensures.point)),
)) c.reopen-wire.ensures.leads

pub returns-clause-opened : goal.returns-clause-opened
returns-clause-opened g c = reopens_by c.port_of-port.result.berth.asked _ c.reopen-wire.result c.port_of-port.ensures
    c.reopen-wire.ensures.asked
