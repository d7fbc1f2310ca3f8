-- Where no drain may come there was one, or nothing but a refusal is due for the user.
use Rattle.std.proofs.Common.{◌≡◌, ◌&&◌, ◌||◌, not, true, false, Bool, refl}
use Rattle.exchange_core.specs.May.{is_gone}
use Rattle.shard_exchange.proofs.exchange.Exchange.drain.Goals as goal

-- where no drain may come there was one, or nothing is due any more but a refusal
no_drain : (gone draining stopping may : Bool) → may ≡ (not gone && (not draining && not stopping)) → may ≡ false
    → (draining || (stopping || gone)) ≡ true
no_drain gone true stopping may h k = refl
no_drain gone false true may h k = refl
no_drain true false false may h k = refl
no_drain false false false may h k = cc

pub returns-else-may-clause-drains : goal.returns-else-may-clause-drains
returns-else-may-clause-drains g c =
    let d = c.args.self.now.course in no_drain (is_gone d.phase) d.draining d.stopping c.may.result c.may.ensures c.if-may.false
