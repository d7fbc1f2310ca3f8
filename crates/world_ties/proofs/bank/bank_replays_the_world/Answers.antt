-- A legal history's steps replay to the world's totals, as a journal shows, and are allowed if a bank takes the events' numbers.
use Rattle.world_ties.proofs.Stepping.{replays, all_allowed, journal_shows}
use Rattle.world_ties.proofs.bank.bank_replays_the_world.Goals as goal

pub returns-clause-totals : goal.returns-clause-totals
returns-clause-totals c = replays

pub returns-clause-allowed : goal.returns-clause-allowed
returns-clause-allowed c = all_allowed

pub returns-clause-journals : goal.returns-clause-journals
returns-clause-journals c = journal_shows
