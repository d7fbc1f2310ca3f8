-- The bank is full for a claim with room for its preview just where the world has no room; a capacity below the claims' sum is too low.
use Rattle.world_ties.proofs.Stepping.{full_where, low_where, too_low_where}
use Rattle.world_ties.proofs.bank.bank_refuses_where_the_world_does.Goals as goal

pub returns-clause-full : goal.returns-clause-full
returns-clause-full c = full_where

pub returns-clause-low : goal.returns-clause-low
returns-clause-low c = low_where

pub returns-clause-too_low : goal.returns-clause-too_low
returns-clause-too_low c = too_low_where
