-- The count is the most bytes that may be sent and fit the turn, and at least one where any may be sent.
use Rattle.std.proofs.Common.{arith}
use Rattle.icap_client.proofs.due.bytes_due.Goals as goal

pub returns-clause-greatest : goal.returns-clause-greatest
returns-clause-greatest c n may few fits = c.fit.ensures.greatest n (omega (arith, few, c.sendable.ensures.svc.bound n may)) fits

pub returns-clause-some : goal.returns-clause-some
returns-clause-some c n may = c.fit.ensures.some (omega (arith, c.requires, may.1.1.0, c.sendable.ensures.svc.bound n may))
