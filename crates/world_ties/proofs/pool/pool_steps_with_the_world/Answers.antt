-- By an event's step, or without one, a pool's numbers stay those of the world, in both forms of its journal.
use Rattle.world_ties.proofs.Pooled.{step_goes, none_stays, journals_go}
use Rattle.world_ties.proofs.pool.pool_steps_with_the_world.Goals as goal

pub returns-clause-step : goal.returns-clause-step
returns-clause-step c = step_goes

pub returns-clause-none : goal.returns-clause-none
returns-clause-none c = none_stays

pub returns-clause-journals : goal.returns-clause-journals
returns-clause-journals c = journals_go
