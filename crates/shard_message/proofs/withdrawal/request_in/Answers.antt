-- The request again, laid on the heap, is the one whose head was read once more.
use Rattle.std.proofs.Common.{IfSome, subst}
use Rattle.proxy_rules.specs.Arrivals.{Arrival}
use Rattle.shard_message.specs.Told.{IsRequestAgain}
use Rattle.shard_message.proofs.AgainLemmas.{boxed}
use Rattle.shard_message.proofs.withdrawal.request_in.Goals as goal

-- on the heap it is what it was
pub returns : goal.returns
returns c =
    boxed (λ b. b.value) (λ (again : Arrival). IfSome c.args.response.value.user (λ request. IsRequestAgain request again)) c.new.result
    c.ok.result c.in_ok-again.again c.ok.ensures.value c.new.ensures.ok
    (subst (λ (m : Arrival). IfSome m.user (λ request. IsRequestAgain request c.in_ok-again.again)) c.into_inner.ensures
    c.in_ok-again.ensures)
