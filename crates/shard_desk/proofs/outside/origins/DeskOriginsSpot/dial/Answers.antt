-- A connection is opened only where no idle one was taken, and the idle ones stay as they were left then.
use Rattle.std.proofs.Common.{sym, ◌∙◌}
use Rattle.shard_desk.proofs.outside.origins.DeskOriginsSpot.dial.Goals as goal

-- one is opened once none was taken, and those that lie idle stay as they were left then
pub returns-in-None-clause-takes : goal.returns-in-None-clause-takes
returns-in-None-clause-takes g c = λ first.
    let taken = c.take_kept.ensures.takes first in
    (taken.0, taken.1, (taken.2.0, taken.2.1 ∙ (c.in-None.is ∙ sym c.open_origin.ensures.none), rw c.open_origin.ensures.others taken.2.2))
