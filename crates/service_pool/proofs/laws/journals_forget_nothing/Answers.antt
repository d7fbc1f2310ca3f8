-- A journal of either form that began empty has the last of all steps; its base is the numbers before these, its numbers those after all.
use Rattle.service_pool.proofs.JournalLemmas.{windows-have_last, rebasing-has_last}
use Rattle.service_pool.proofs.laws.journals_forget_nothing.Goals as goal

pub returns-clause-windows : goal.returns-clause-windows
returns-clause-windows c = windows-have_last

pub returns-clause-rebasing : goal.returns-clause-rebasing
returns-clause-rebasing c = rebasing-has_last
