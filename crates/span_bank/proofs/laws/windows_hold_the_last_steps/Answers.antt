-- A window holds the last steps: as many as it has room for, or all that were taken.
use Rattle.span_bank.proofs.JournalLemmas.{windows-keep_last}
use Rattle.span_bank.proofs.laws.windows_hold_the_last_steps.Goals as goal

pub returns : goal.returns
returns c = windows-keep_last
