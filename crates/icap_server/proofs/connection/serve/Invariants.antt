-- What was written is what the side answered to what was read, and the side is open.
use Rattle.icap_services.specs.Texts.{shown}
use Rattle.icap_server.specs.Connection.{ServesOn}
use Rattle.icap_server.proofs.connection.serve.Given as goal

abbrev pub invariant-loop : goal.invariant-loop
invariant-loop g l = ServesOn (shown l.fn.settings) (g.R.Read.remaining l.fn.reader) (g.R.Read.remaining l.reader)
    (g.W.Write.contents l.fn.writer) (g.W.Write.contents l.writer) l.side
