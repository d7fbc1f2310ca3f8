-- A written chunk of some bytes adds them to whole chunks, below a body's limit; the last chunk ends the body.
use Rattle.icap_chunks.proofs.Written.{chunk_written, last_written}
use Rattle.icap_chunks.proofs.laws.reads_what_it_writes.Goals as goal

pub returns : goal.returns
returns c = record { chunk = chunk_written; last = last_written }
