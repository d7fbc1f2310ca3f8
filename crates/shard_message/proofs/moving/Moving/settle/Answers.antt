-- What a request's transaction came to is so of the message; of a response that is to come no byte was read yet.
use Rattle.std.proofs.Common.{◌≡◌, ap}
use Rattle.std.specs.Bool.{⊤}
use Rattle.adapt_sides.specs.Turns.Gift.{nothing}
use Rattle.adapt_hold.specs.Holding.{shows}
use Rattle.adapt_turn.specs.declared.turn.Outcome.TheVariants.{Done}
use Rattle.http_relay.specs.Giving.{gift_of}
use Rattle.proxy_rules.specs.Connections.{CarriesOn, Lasts}
use Rattle.shard_message.specs.Ended.{IfAsked, ended_as}
use Rattle.shard_message.proofs.CleanLemmas.{clean_next}
use Rattle.shard_message.proofs.NextLemmas.{ends_halted}
use Rattle.shard_message.proofs.moving.Moving.settle.Goals as goal

-- a request's transaction keeps its next hop when it is halted, and that is the origin
pub returns-in-Request-clause-withdrawn : goal.returns-in-Request-clause-withdrawn
returns-in-Request-clause-withdrawn g c = λ has_memory told.
    let withdrawn = c.settle_request.ensures.withdrawn has_memory told in
    rw c.in-Request.is (rw c.tx_of-tx.ensures.kept.2 at withdrawn)

-- the next hop of a request gives nothing, and what comes after it is its response, before the first byte
pub returns-in-Request-clause-clean : goal.returns-in-Request-clause-clean
returns-in-Request-clause-clean g c = λ s since.
    let tx = rw c.in-Request.is at since in
    let settled = c.settle_request in
    rw (ap (λ connections. connections.origin) settled.ensures.wires)
    (rw c.tx_of-tx.ensures.kept.2
    (clean_next g.O.Origin.Wire s.origin _ _ _ _ settled.result.report.end settled.result.message
    (λ m is. (is.1, (tx.texts.next_taken, tx.next_is))) settled.ensures.next))

-- no answer of an origin follows a response
pub returns-in-Response-clause-clean : goal.returns-in-Response-clause-clean
returns-in-Response-clause-clean g c = λ s since.
    let settled = c.settle_response in
    clean_next g.O.Origin.Wire s.origin _ _ _ _ settled.result.report.end settled.result.message (λ m no. absurd no) settled.ensures.next

-- what is told of a request's transaction is so of the one that was halted
pub returns-in-Request-clause-told : goal.returns-in-Request-clause-told
returns-in-Request-clause-told g c =
    let tx = c.tx_of-tx in
    let old = c.in-Request.running.value.tx in
    let said = rw c.settle_request.ensures.answered at c.settle_request.ensures.told in
    let left = rw tx.ensures.kept.2 at (rw tx.ensures.outcome at (rw tx.ensures.plan at said)) in
    let told = rw c.deref.ensures at (rw c.has_answered-has_answered.ensures at left) in (
      c.settle_request.ensures.ends,
      rw c.in-Request.is
          (rw c.in-Request.is
          (ends_halted _ (λ ends. gift_of ends.back.stage ≡ nothing) (λ ends. CarriesOn Done ends.maker.closes ends.source) (λ _. ⊥) _
          tx.result.ends old.ends _ _ c.args.by _ tx.ensures.ends told)),
    )

-- what is told of a response's is so too
pub returns-in-Response-clause-told : goal.returns-in-Response-clause-told
returns-in-Response-clause-told g c =
    let tx = c.tx_of-tx-in-Response in
    let old = c.in-Response.running.value.tx in
    let told = rw tx.ensures.outcome at (rw tx.ensures.plan at c.settle_response.ensures.told) in (
      c.settle_response.ensures.ends,
      rw c.in-Response.is
          (ends_halted old.hold.history.plan.point (λ _. ⊥) (λ ends. IfAsked (CarriesOn Done ends.maker.closes) ends.maker.user)
          (λ ends. Lasts (ended_as (shows old.hold.history).closed old.outcome) ends.source) ⊤ tx.result.ends old.ends _ old.outcome
          c.args.by _ tx.ensures.ends told),
    )

-- what goes on with the response to a request is of the service that its transaction had
pub returns-in-Request-clause-carries : goal.returns-in-Request-clause-carries
returns-in-Request-clause-carries g c =
    let carries = c.settle_request.ensures.carries in
    rw c.in-Request.is (carries.0, carries.1, rw c.tx_of-tx.ensures.service at carries.2)
