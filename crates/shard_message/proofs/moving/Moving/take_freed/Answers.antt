-- What was so since a message set out is so once the service's connection is given up.
use Rattle.shard_message.specs.Outset.{of_request, of_response}
use Rattle.shard_message.proofs.moving.Moving.take_freed.Goals as goal

pub returns-in-Request-clause-carries : goal.returns-in-Request-clause-carries
returns-in-Request-clause-carries g c = λ s h. c.take_freed.ensures.lasts (of_request s)
    (rw c.deref_mut.ensures.value (rw c.in-Request.is at h))

pub returns-in-Response-clause-carries : goal.returns-in-Response-clause-carries
returns-in-Response-clause-carries g c = λ s h. c.take_freed-in-Response.ensures.lasts (of_response s)
    (rw c.deref_mut-in-Response.ensures.value (rw c.in-Response.is at h))
