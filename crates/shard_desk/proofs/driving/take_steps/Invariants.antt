-- The steps so far led on.
use Rattle.shard_desk.proofs.Led.{Led}
use Rattle.shard_desk.proofs.driving.take_steps.Given as goal

abbrev pub invariant-loop-taken : goal.invariant-loop-taken
invariant-loop-taken g l = Led (g.E.Exchange.Slotted.past l.fn.exchange) (g.E.Exchange.Slotted.past l.exchange) l._taken l.noted.rounds
