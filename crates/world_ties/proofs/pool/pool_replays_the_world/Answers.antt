-- A legal history's steps for a service replay to its numbers, as a journal shows, and are allowed if a pool takes the maxima.
use Rattle.world_ties.proofs.Pooled.{replays, all_allowed, journal_shows}
use Rattle.world_ties.proofs.pool.pool_replays_the_world.Goals as goal

pub returns-clause-numbers : goal.returns-clause-numbers
returns-clause-numbers c = replays

pub returns-clause-allowed : goal.returns-clause-allowed
returns-clause-allowed c = all_allowed

pub returns-clause-journals : goal.returns-clause-journals
returns-clause-journals c = journal_shows
