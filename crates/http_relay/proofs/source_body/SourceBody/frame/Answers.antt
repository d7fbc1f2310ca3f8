-- The events tell the body's bytes that were read, and its end; more bytes than may be told are refused.
use Rattle.std.proofs.Common.{◌≡◌, ◌∙◌, ℕ, ◌+◌, true, false, List, take, refl, sym, subst, arith}
use Rattle.trace_core.specs.declared.history.Event.{Event}
use Rattle.trace_core.specs.Turns.{in_sum}
use Rattle.http_relay.specs.Events.{source_events}
use Rattle.http_relay.specs.Source.{BodyReads}
use Rattle.http_relay.specs.declared.source_body.SourceBody.{SourceBody}
use Rattle.http_relay.proofs.Telling.{tells, sum_is}
use Rattle.http_relay.proofs.TooLong.{too_long}
use Rattle.http_relay.proofs.source_body.SourceBody.frame.Goals as goal

pub returns-else-not-may_tell-clause-reads : goal.returns-else-not-may_tell-clause-reads
returns-else-not-may_tell-clause-reads c =
    let new : SourceBody = record {
      framing = c.args.self.now.framing;
      reader = c.read_body.new.reader;
      received = c.args.self.now.received + c.in-Ok.copied.count;
      ended = c.in-Ok.copied.ended;
    } in
    let told = tells c.args.self.now new c.args.raw.now c.read_body.new.out c.in-Ok.copied.used c.in-Ok.copied.count c.in-Ok.copied.ended
    c.if-self.false refl refl refl c.in-Ok.ensures.reads (omega (arith, c.in-Ok.ensures.within.1, c.read_body.auto.out))
    c.in-Ok.ensures.ended (c.may_tell.ensures.0 c.if-not-may_tell.false) in
    subst (λ (es : List Event). BodyReads c.args.self.now new es (take c.in-Ok.copied.used c.args.raw.now)
    (take (in_sum es) c.read_body.new.out) false) (sym c.source_events.ensures)
    (subst (λ (k : ℕ). BodyReads c.args.self.now new (source_events c.in-Ok.copied.count c.in-Ok.copied.ended)
    (take c.in-Ok.copied.used c.args.raw.now) (take k c.read_body.new.out) false)
    (sym (sum_is c.in-Ok.copied.count c.in-Ok.copied.ended)) told)

pub returns-then-not-may_tell-clause-refuses : goal.returns-then-not-may_tell-clause-refuses
returns-then-not-may_tell-clause-refuses c =
    let w = c.in-Ok.ensures.within in
    too_long c.args.self.now c.args.raw.now c.read_body.new.out c.in-Ok.copied.used c.in-Ok.copied.count c.in-Ok.copied.ended
    c.read_body.new.reader c.in-Ok.ensures.reads
    (omega (arith, w.1, c.read_body.auto.out)) (omega (arith, w.0, w.2)) c.in-Ok.ensures.ended
    (λ f. let odd : false ≡ true = sym c.if-not-may_tell.true ∙ c.may_tell.ensures.1 f in cc)
