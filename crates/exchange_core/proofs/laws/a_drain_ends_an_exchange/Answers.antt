-- An answer that starts in a drain is the last on its connection; at most one more request is read after a drain.
use Rattle.exchange_core.proofs.Draining.{closes, one_more}
use Rattle.exchange_core.proofs.laws.a_drain_ends_an_exchange.Goals as goal

pub returns : goal.returns
returns c = record { closes = closes; one = one_more }
