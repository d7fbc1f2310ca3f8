-- The service's connection goes back where that is due, and the user's connection closes where that is due.
use Rattle.std.proofs.Common.{◌∙◌, sym}
use Rattle.shard_exchange.proofs.exchange.Exchange.do_due.Goals as goal

-- a connection goes back, since that is due
pub returns-in-GiveBack-clause-does : goal.returns-in-GiveBack-clause-does
returns-in-GiveBack-clause-does g c = rw (sym c.due.ensures.due ∙ c.in-GiveBack.is) c.give_back.ensures.given

-- so does the user's connection close
pub returns-in-Linger-clause-does : goal.returns-in-Linger-clause-does
returns-in-Linger-clause-does g c = rw (sym c.due.ensures.due ∙ c.in-Linger.is) c.close.ensures.closed
