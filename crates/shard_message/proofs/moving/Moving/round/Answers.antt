-- A round of a message is one of its transaction, and carries on what was so since it set out.
use Rattle.shard_message.specs.Outset.{of_request, of_response}
use Rattle.shard_message.proofs.moving.Moving.round.Goals as goal

pub returns-in-Request-clause-turns : goal.returns-in-Request-clause-turns
returns-in-Request-clause-turns g c = let turns = c.round_of.ensures.turns in
    (turns.0, turns.1, rw c.in-Request.is (rw c.deref_mut.ensures.value at turns.2))

pub returns-in-Request-clause-carries : goal.returns-in-Request-clause-carries
returns-in-Request-clause-carries g c = λ s h. c.round_of.ensures.carries (of_request s)
    (rw c.deref_mut.ensures.value (rw c.in-Request.is at h))

pub returns-in-Response-clause-turns : goal.returns-in-Response-clause-turns
returns-in-Response-clause-turns g c = let turns = c.round_of-in-Response.ensures.turns in
    (turns.0, turns.1, rw c.in-Response.is (rw c.deref_mut-in-Response.ensures.value at turns.2))

pub returns-in-Response-clause-carries : goal.returns-in-Response-clause-carries
returns-in-Response-clause-carries g c = λ s h. c.round_of-in-Response.ensures.carries (of_response s)
    (rw c.deref_mut-in-Response.ensures.value (rw c.in-Response.is at h))
