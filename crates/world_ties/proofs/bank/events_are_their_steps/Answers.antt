-- Bytes that arrive and are kept are a Grow by their number; dropped ones and events that leave as much held are no step.
use Rattle.world_ties.proofs.Moving.{grows, only_brought, quiet, dropped}
use Rattle.world_ties.proofs.bank.events_are_their_steps.Goals as goal

pub returns-clause-grows : goal.returns-clause-grows
returns-clause-grows c = grows

pub returns-clause-only : goal.returns-clause-only
returns-clause-only c = only_brought

pub returns-clause-quiet : goal.returns-clause-quiet
returns-clause-quiet c = quiet

pub returns-clause-dropped : goal.returns-clause-dropped
returns-clause-dropped c = dropped
