-- A user may be lost at any time before a stop; once gone, what is held goes back, in at most three events.
use Rattle.std.proofs.Common.{refl}
use Rattle.exchange_core.proofs.Ending.{lost_at_once, only_frees, few_after_gone}
use Rattle.exchange_core.proofs.laws.a_lost_user_ends_an_exchange.Goals as goal

pub returns : goal.returns
returns c = record { at_once = lost_at_once; gone = λ events. refl; frees = only_frees; few = few_after_gone }
