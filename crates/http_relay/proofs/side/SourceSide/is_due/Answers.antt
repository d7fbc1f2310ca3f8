-- With room left, the raw bytes are due only where a line ends in those that weren't judged.
use Rattle.std.proofs.Common.{ap, sym, ◌∙◌, inr}
use Rattle.adapt_bytes.specs.Text.{has_line}
use Rattle.http_relay.proofs.side.SourceSide.is_due.Goals as goal

pub returns-else-len-ge-MAX_HEAD-clause-due : goal.returns-else-len-ge-MAX_HEAD-clause-due
returns-else-len-ge-MAX_HEAD-clause-due c = λ e. inr (sym (ap has_line c.unjudged.ensures) ∙ (sym c.contains.ensures.value ∙ e))
