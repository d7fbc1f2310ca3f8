-- Where a reader has ended, its text is a whole body; at a fault the text breaks the grammar; else it is a prefix of a body.
use Rattle.icap_chunks.proofs.Readings.{reads_end, reads_fault, reads_more}
use Rattle.icap_chunks.proofs.laws.stands_for_its_text.Goals as goal

pub returns : goal.returns
returns c = record { ended = reads_end; broken = reads_fault; more = reads_more }
