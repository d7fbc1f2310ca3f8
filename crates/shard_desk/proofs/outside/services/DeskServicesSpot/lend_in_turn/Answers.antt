-- A connection that is lent in its turn leads to the service of its lease's point, which is the point asked for.
use Rattle.service_pool.specs.Lending.{point_of}
use Rattle.shard_desk.specs.Places.{place_at}
use Rattle.shard_desk.proofs.Serving.{serves_lease}
use Rattle.shard_desk.proofs.outside.services.DeskServicesSpot.lend_in_turn.Goals as goal

pub returns-then-is_ok-clause-serves : goal.returns-then-is_ok-clause-serves
returns-then-is_ok-clause-serves g c =
    serves_lease (λ lease. point_of lease) (λ wire. wire.stream.to) _ place_at _ _ c.lend_waiting-lent.ensures.point
    c.lend_waiting-lent.ensures.leads

pub returns-else-is_ok-clause-serves : goal.returns-else-is_ok-clause-serves
returns-else-is_ok-clause-serves g c =
    serves_lease (λ lease. point_of lease) (λ wire. wire.stream.to) _ place_at _ _ c.lend_waiting-lent.ensures.point
    c.lend_waiting-lent.ensures.leads
