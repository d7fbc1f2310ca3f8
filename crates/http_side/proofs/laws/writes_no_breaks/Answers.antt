-- No field of a forwarded head has CR, LF or NUL in its name or its value.
use Rattle.http_side.proofs.WrittenLemmas.{writes_no_breaks}
use Rattle.http_side.proofs.laws.writes_no_breaks.Goals as goal

pub returns : goal.returns
returns c = writes_no_breaks
