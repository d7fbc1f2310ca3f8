-- Each pass so far ended with a pause, and nobody else has a seat after one.
use Rattle.std.proofs.Common.{◌≡◌, ◌<◌, true}
use Rattle.shard_desk.proofs.Passing.{Passed}
use Rattle.shard_desk.proofs.driving.drive_on.Given as goal

abbrev pub invariant-loop-pass : goal.invariant-loop-pass
invariant-loop-pass g l =
    Passed (g.E.Exchange.Slotted.past l.fn.exchange) (g.E.Exchange.Slotted.past l.exchange) l._pass × (0 < l._pass → l.alone ≡ true)
