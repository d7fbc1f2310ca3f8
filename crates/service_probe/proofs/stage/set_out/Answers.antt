-- The message and its offer may begin a transaction, since they may where they lie in their boxes.
use Rattle.std.proofs.Common.{◌≡◌, Bool, sym, subst, ◌∙◌}
use Rattle.proxy_rules.specs.Arrivals.{Arrival}
use Rattle.proxy_rules.specs.Offers.{Offered}
use Rattle.proxy_rules.specs.Beginnings.{MayBegin}
use Rattle.service_probe.proofs.stage.set_out.Goals as goal

-- the same message, offered alike, may begin too
same_may : {m n : Arrival} {o p : Offered} {a b : Bool} → m ≡ n → o ≡ p → a ≡ b → MayBegin m o a → MayBegin n p b
same_may {m} {n} {o} {p} {a} {b} d e f may =
    subst (λ (x : Arrival). MayBegin x p b) d (subst (λ (x : Offered). MayBegin m x b) e (subst (λ (x : Bool). MayBegin m o x) f may))

pub begin-running-requires-clause-may : goal.begin-running-requires-clause-may
begin-running-requires-clause-may g c = same_may (c.deref.ensures ∙ sym c.into_inner-2.ensures)
    (c.deref-2.ensures ∙ sym c.into_inner.ensures)
    c.is_some-is_connected.ensures (c.may_begin.ensures.0 c.if-not-may_begin.false)
