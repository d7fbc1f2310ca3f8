-- A window that began empty holds the last steps, as many as it has room for.
use Rattle.service_pool.proofs.JournalLemmas.{windows-keep_last}
use Rattle.service_pool.proofs.laws.windows_hold_the_last_steps.Goals as goal

pub returns : goal.returns
returns c = windows-keep_last
