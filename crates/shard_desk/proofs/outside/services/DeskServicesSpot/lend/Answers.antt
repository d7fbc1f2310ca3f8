-- A connection that is lent leads to the service of its lease's point, which is the point asked for.
use Rattle.service_pool.specs.Lending.{point_of}
use Rattle.shard_desk.specs.Places.{place_at}
use Rattle.shard_desk.proofs.Serving.{serves_lease}
use Rattle.shard_desk.proofs.outside.services.DeskServicesSpot.lend.Goals as goal

pub returns-clause-serves : goal.returns-clause-serves
returns-clause-serves g c =
    serves_lease (λ lease. point_of lease) (λ wire. wire.stream.to) _ place_at _ _ c.lend_now-lent.ensures.point
    c.lend_now-lent.ensures.leads
