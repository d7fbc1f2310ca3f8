-- A service's connection that comes out lies beside its lease; where none does, the message is as it was.
use Rattle.std.proofs.Common.{refl, ap, sym}
use Rattle.proxy_rules.specs.Since.{held_or}
use Rattle.shard_message.proofs.holding.HoldingsHolder.free_service.Goals as goal

-- none came out, and the message is as it was
pub returns-in_err-wire-clause-freed : goal.returns-in_err-wire-clause-freed
returns-in_err-wire-clause-freed g c = rw c.in-Some.is (rw c.from_residual.ensures
    (refl, (c.in_err-wire.ensures.due refl, λ s h. (s.given, refl, c.in_err-wire.ensures.carries s h))))

-- the one that came out lies beside its lease
pub returns-clause-freed : goal.returns-clause-freed
returns-clause-freed g c = rw c.in-Some.is (
  refl,
  (
    (c.in_ok-wire.ensures.over, (c.in_ok-wire.field-0.wire, c.in_ok-wire.ensures.wire, c.lay_wire.ensures.laid)),
    λ s h. (_, ap (λ line. held_or line s.given) (sym c.in_ok-wire.ensures.wire), c.in_ok-wire.ensures.carries s h),
  ),
)
