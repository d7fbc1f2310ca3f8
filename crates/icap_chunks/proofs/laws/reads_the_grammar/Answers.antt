-- A reader ends exactly where a body of the grammar ends, and has found that body's bytes.
use Rattle.icap_chunks.proofs.Endings.{reads_chunked}
use Rattle.icap_chunks.proofs.laws.reads_the_grammar.Goals as goal

pub returns : goal.returns
returns c = reads_chunked
