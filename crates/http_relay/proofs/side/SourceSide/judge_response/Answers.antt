-- A response's head ends within the raw bytes; an interim one that is allowed is dropped, a final one begins the message.
use Rattle.std.proofs.Common.{ℕ, List, [], ◌+◌, ◌<◌, ◌≤◌, ◌⊎◌, refl, sym, subst, ◌∙◌}
use Rattle.http_side.specs.Body.{HasRead}
use Rattle.http_side.specs.Responses.{IsResponseRead, MayRefuseResponse}
use Rattle.http_relay.specs.Judging.{RefusesBytes}
use Rattle.http_relay.specs.declared.side.head.Asks.{Asks}
use Rattle.http_side.specs.declared.body.Framing.{Framing}
use Rattle.http_relay.specs.declared.side.SourceSide.{SourceSide}
use Rattle.http_relay.specs.declared.side.head.SourceHead.TheVariants as heads
use Rattle.http_relay.proofs.Beginning.{begins_response, drops_interim, response_within}
use Rattle.http_relay.proofs.side.SourceSide.judge_response.Goals as goal

pub advance-requires : goal.advance-requires
advance-requires c =
    let before = c.args.self.now in
    response_within before.raw.items c.in-Ok.head.value c.in-Ok.head.length c.args.to_head
    (subst (λ (t : List ℕ). IsResponseRead c.args.to_head t c.in-Ok.head.value c.in-Ok.head.length) c.as_slice.ensures c.in-Ok.ensures.ok)

pub returns-then-is_interim-clause-heads : goal.returns-then-is_interim-clause-heads
returns-then-is_interim-clause-heads c =
    let before = c.args.self.now in
    let new : SourceSide = record {
      alloc = before.alloc;
      asks = before.asks;
      head = before.head;
      head_fault = before.head_fault;
      body = before.body;
      raw = c.advance.new.self;
      judged = 0;
      interims =
          before.interims + 1;
      fault = before.fault;
    } in
    let is = (subst (λ (t : List ℕ). IsResponseRead c.args.to_head t c.in-Ok.head.value c.in-Ok.head.length) c.as_slice.ensures
    c.in-Ok.ensures.ok) in
    drops_interim before new c.in-Ok.head.length c.in-Ok.head.value c.args.to_head c.requires.asks refl refl
    c.advance.ensures.items (response_within before.raw.items c.in-Ok.head.value c.in-Ok.head.length c.args.to_head is) is
    (let i = c.is_interim.ensures.interim c.if-is_interim.true in
    record {
      from = subst (λ (n : ℕ). 100 ≤ n) c.status-status.ensures.value i.0;
      to = subst (λ (n : ℕ). n ≤ 199) c.status-status.ensures.value i.1;
      other =
          λ e. c.if-status-eq101.false (c.status-status.ensures.value ∙ e);
    })
    c.if-self-ge-MAX_INTERIMS.false refl

pub advance-requires-in-Ok : goal.advance-requires-in-Ok
advance-requires-in-Ok c =
    let before = c.args.self.now in
    response_within before.raw.items c.in-Ok.head.value c.in-Ok.head.length c.args.to_head
    (subst (λ (t : List ℕ). IsResponseRead c.args.to_head t c.in-Ok.head.value c.in-Ok.head.length) c.as_slice.ensures c.in-Ok.ensures.ok)

pub returns-else-is_interim-clause-heads : goal.returns-else-is_interim-clause-heads
returns-else-is_interim-clause-heads c =
    let before = c.args.self.now in
    let new : SourceSide = record {
      alloc = before.alloc;
      asks = before.asks;
      head = heads.Response c.in-Ok.head.value;
      head_fault = before.head_fault;
      body = c.new-self.result;
      raw = c.advance-in-Ok.new.self;
      judged = 0;
      interims =
          before.interims;
      fault = before.fault;
    } in
    let is = (subst (λ (t : List ℕ). IsResponseRead c.args.to_head t c.in-Ok.head.value c.in-Ok.head.length) c.as_slice.ensures
    c.in-Ok.ensures.ok) in
    begins_response before new c.in-Ok.head.length c.in-Ok.head.value c.args.to_head c.requires.asks refl
    c.advance-in-Ok.ensures.items (response_within before.raw.items c.in-Ok.head.value c.in-Ok.head.length c.args.to_head is)
    refl is
    (subst (λ (n : ℕ). (n < 100) ⊎ (199 < n)) c.status-status.ensures.value (c.is_interim.ensures.last c.if-is_interim.false))
    (c.new-self.ensures.framing ∙ c.framing.ensures) (subst (λ (w : Framing). HasRead w [] [] c.new-self.result.reader)
    (sym c.new-self.ensures.framing) c.new-self.ensures.reads) c.new-self.ensures.ended c.new-self.ensures.received

pub refuse-requires-clause-cause : goal.refuse-requires-clause-cause
refuse-requires-clause-cause c =
    let before = c.args.self.now in
    subst (λ (a : Asks). RefusesBytes a before.raw.items c.in-Err.fault) (sym c.requires.asks)
    (subst (λ (t : List ℕ). MayRefuseResponse t c.in-Err.fault) c.as_slice.ensures c.in-Err.ensures.err)
