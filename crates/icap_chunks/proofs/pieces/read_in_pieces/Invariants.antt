-- The text is read up to the collector's offset, without an end or a fault; less of it is left at each turn.
use Rattle.std.proofs.Common.{◌-◌, length}
use Rattle.icap_chunks.specs.Collected.{HasReadTo}
use Rattle.icap_chunks.proofs.pieces.read_in_pieces.Given as goal

abbrev pub invariant-loop-collector : goal.invariant-loop-collector
invariant-loop-collector l = HasReadTo l.text l.collector

abbrev pub decreases-loop-collector : goal.decreases-loop-collector
decreases-loop-collector l = length l.text - l.collector.at
