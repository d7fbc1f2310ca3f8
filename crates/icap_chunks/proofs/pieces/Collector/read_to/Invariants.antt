-- The text is read up to an offset not past the piece's end, and neither the body's end nor a fault has come.
use Rattle.std.proofs.Common.{◌-◌, ◌≤◌}
use Rattle.icap_chunks.specs.Collected.{HasReadTo}
use Rattle.icap_chunks.proofs.pieces.Collector.read_to.Given as goal

abbrev pub invariant-loop-self : goal.invariant-loop-self
invariant-loop-self l = record {
  within : l.self.at ≤ l.end;
  read : HasReadTo l.text l.self;
}

abbrev pub decreases-loop-self : goal.decreases-loop-self
decreases-loop-self l = l.end - l.self.at
