-- The step of an event that the world takes is allowed to the pool, if a maximum is one that a pool may have.
use Rattle.world_ties.proofs.Pooled.{step_allowed}
use Rattle.world_ties.proofs.pool.pool_takes_what_the_world_takes.Goals as goal

pub returns : goal.returns
returns c = step_allowed
