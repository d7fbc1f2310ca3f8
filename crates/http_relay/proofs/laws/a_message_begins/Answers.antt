-- Where the head was read, a message of each plan begins, with no byte of its body yet.
use Rattle.std.proofs.Common.{[], refl}
use Rattle.trace_core.specs.History.{seen}
use Rattle.http_relay.proofs.laws.a_message_begins.Goals as goal

pub returns : goal.returns
returns c = λ plan read s b. (b (seen plan []) refl refl).0
