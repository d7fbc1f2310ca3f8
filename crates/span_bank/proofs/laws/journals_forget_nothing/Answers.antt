-- Windows and rebasing journals have the last of all steps, and a base that the earlier ones replay to.
use Rattle.span_bank.proofs.JournalLemmas.{windows-have_last, rebasing-has_last}
use Rattle.span_bank.proofs.laws.journals_forget_nothing.Goals as goal

pub returns-clause-windows : goal.returns-clause-windows
returns-clause-windows c = windows-have_last

pub returns-clause-rebasing : goal.returns-clause-rebasing
returns-clause-rebasing c = rebasing-has_last
