-- The step of an event that the world takes is allowed by the sums, if a bank takes its number, and fits if a row is free.
use Rattle.world_ties.proofs.Stepping.{may_sum_step, step_fits}
use Rattle.world_ties.proofs.bank.bank_takes_what_the_world_takes.Goals as goal

pub returns-clause-sums : goal.returns-clause-sums
returns-clause-sums c = may_sum_step

pub returns-clause-fits : goal.returns-clause-fits
returns-clause-fits c = step_fits
