-- A pool is busy to a lease, or over its maximum at a retry, just where the world answers that it is full.
use Rattle.world_ties.proofs.Pooled.{busy_where, over_where}
use Rattle.world_ties.proofs.pool.pool_refuses_where_the_world_does.Goals as goal

pub returns-clause-busy : goal.returns-clause-busy
returns-clause-busy c c' = busy_where

pub returns-clause-over : goal.returns-clause-over
returns-clause-over c c' = over_where
