-- Each text is a whole body with what is left over, a text that breaks the grammar, or a prefix of a body.
use Rattle.icap_chunks.proofs.Totals.{some_reading}
use Rattle.icap_chunks.proofs.laws.has_a_reading.Goals as goal

pub returns : goal.returns
returns c = some_reading
