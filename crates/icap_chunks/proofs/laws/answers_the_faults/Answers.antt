-- A reader is at a fault exactly where a byte has broken the grammar in that way, with the same body before it.
use Rattle.icap_chunks.proofs.Faults.{answers_faults}
use Rattle.icap_chunks.proofs.laws.answers_the_faults.Goals as goal

pub returns : goal.returns
returns c = answers_faults
