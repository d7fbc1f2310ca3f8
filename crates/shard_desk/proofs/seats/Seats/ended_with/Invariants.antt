-- The first one so far gives way.
use Rattle.std.specs.Prelude.{IfSome}
use Rattle.shard_desk.specs.Sparing.{GivesWay}
use Rattle.shard_desk.proofs.seats.Seats.ended_with.Given as goal

abbrev pub invariant-loop-key : goal.invariant-loop-key
invariant-loop-key l = IfSome l.first (GivesWay l.initial.self l.initial.point)
