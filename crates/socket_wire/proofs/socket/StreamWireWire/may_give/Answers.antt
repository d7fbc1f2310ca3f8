-- An answer that nothing is there to read counts as a read that waits, and the stream stays as it was.
use Rattle.std.proofs.Common.{[]}
use Rattle.socket_wire.proofs.socket.StreamWireWire.may_give.Goals as goal

pub returns-clause-waits : goal.returns-clause-waits
returns-clause-waits g c = λ e p h. record { counts = c.note_got.ensures p [] tt h.counts; calls = h.calls }
