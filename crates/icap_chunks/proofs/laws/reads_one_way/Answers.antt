-- A text that is a whole chunked body has one body, and ends with `ieof` or without it, never both.
use Rattle.icap_chunks.proofs.Written.{one_reading}
use Rattle.icap_chunks.proofs.laws.reads_one_way.Goals as goal

pub returns : goal.returns
returns c = one_reading
