-- The text is read up to the collector's offset, and neither the end nor a fault has come.
use Rattle.icap_chunks.specs.Collected.{HasReadTo}
use Rattle.icap_chunks.proofs.pieces.read_cut.Given as goal

abbrev pub invariant-loop-size : goal.invariant-loop-size
invariant-loop-size l = HasReadTo l.text l.collector
