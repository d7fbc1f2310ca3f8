-- A request that begins anew does so on the fresh connection, and what was so since it set out stays so.
use Rattle.std.proofs.Common.{◌≡◌, Option, Some, None, IfSome, refl, sym, subst}
use Rattle.adapt_turn.specs.declared.ends.ServiceEnd.{ServiceEnd}
use Rattle.adapt_turn.specs.ChosenHead.{wire_of}
use Rattle.shard_message.proofs.turns.renew.Goals as goal

-- what is so of the connection that was handed in is so of the service's
on_fresh : {V W : Type 0} (p : W → Type 0) (service : Option (ServiceEnd V W)) (wire : W)
    → IfSome service (λ line. line.wire ≡ Some wire) → p wire → IfSome (wire_of service) p
on_fresh p None wire fresh opened = tt
on_fresh p (Some line) wire fresh opened = subst (λ (w : Option _). IfSome w p) (sym fresh) opened

pub returns-in-Ok-clause-carries : goal.returns-in-Ok-clause-carries
returns-in-Ok-clause-carries g c = λ s h.
    let tx = c.retry.new.self.tx in (
      wire_of tx.ends.service,
      None,
      (on_fresh _ tx.ends.service c.in-Ok.wire c.retry.ensures.fresh c.in-Ok.ensures.opened, refl),
      c.retry.ensures.lasts _ (c.take_broken.ensures.lasts s h),
    )
