-- After a legal log, an event that comes of what is due and fits what is there may come.
use Rattle.exchange_core.proofs.Doing.{done}
use Rattle.exchange_core.proofs.laws.what_is_due_may_come.Goals as goal

pub returns : goal.returns
returns c = done
