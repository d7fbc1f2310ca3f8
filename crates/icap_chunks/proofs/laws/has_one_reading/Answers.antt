-- A text has at most one reading: one body and one outcome.
use Rattle.icap_chunks.proofs.Readings.{one_outcome}
use Rattle.icap_chunks.proofs.laws.has_one_reading.Goals as goal

pub returns : goal.returns
returns c = one_outcome
