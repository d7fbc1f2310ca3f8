-- A request's head that was read ends within the raw bytes and begins its message; else the fault is theirs.
use Rattle.std.proofs.Common.{ℕ, List, [], false, refl, sym, subst, ◌∙◌}
use Rattle.http_side.specs.Body.{HasRead}
use Rattle.http_side.specs.Requests.{IsRead, MayRefuseRequest}
use Rattle.http_relay.specs.Judging.{RefusesBytes}
use Rattle.http_relay.specs.declared.side.head.Asks.{Asks}
use Rattle.http_side.specs.declared.body.Framing.{Framing}
use Rattle.http_relay.specs.declared.side.SourceSide.{SourceSide}
use Rattle.http_relay.specs.declared.side.head.SourceHead.TheVariants as heads
use Rattle.http_relay.proofs.Beginning.{begins_request, request_within}
use Rattle.http_relay.proofs.side.SourceSide.judge_request.Goals as goal

pub advance-requires : goal.advance-requires
advance-requires c =
    let before = c.args.self.now in
    request_within before.raw.items c.in-Ok.head.value c.in-Ok.head.length
    (subst (λ (t : List ℕ). IsRead false t c.in-Ok.head.value c.in-Ok.head.length) c.as_slice.ensures c.in-Ok.ensures.ok)

pub returns-in-Ok-clause-heads : goal.returns-in-Ok-clause-heads
returns-in-Ok-clause-heads c =
    let before = c.args.self.now in
    let new : SourceSide = record {
      alloc = before.alloc;
      asks = before.asks;
      head = heads.Request c.in-Ok.head.value;
      head_fault = before.head_fault;
      body = c.new-self.result;
      raw = c.advance.new.self;
      judged = 0;
      interims =
          before.interims;
      fault = before.fault;
    } in
    let is = (subst (λ (t : List ℕ). IsRead false t c.in-Ok.head.value c.in-Ok.head.length) c.as_slice.ensures c.in-Ok.ensures.ok) in
    begins_request before new c.in-Ok.head.length c.in-Ok.head.value c.requires.asks refl c.advance.ensures.items
    (request_within before.raw.items c.in-Ok.head.value c.in-Ok.head.length is) refl is
    (c.new-self.ensures.framing ∙ c.framing.ensures) (subst (λ (w : Framing). HasRead w [] [] c.new-self.result.reader)
    (sym c.new-self.ensures.framing) c.new-self.ensures.reads) c.new-self.ensures.ended c.new-self.ensures.received

pub refuse-requires-clause-cause : goal.refuse-requires-clause-cause
refuse-requires-clause-cause c =
    let before = c.args.self.now in
    subst (λ (a : Asks). RefusesBytes a before.raw.items c.in-Err.fault) (sym c.requires.asks)
    (subst (λ (t : List ℕ). MayRefuseRequest false t c.in-Err.fault) c.as_slice.ensures c.in-Err.ensures.err)
