-- What the body frames of the raw bytes, the side has read; no more raw bytes are left than before.
use Rattle.std.proofs.Common.{false, List, ℕ, take, length, length-drop, refl, ap, subst, arith}
use Rattle.trace_core.specs.Turns.{in_sum}
use Rattle.http_relay.specs.Source.{BodyReads}
use Rattle.http_relay.specs.declared.side.SourceSide.{SourceSide}
use Rattle.http_relay.proofs.Sides.{framed_raw}
use Rattle.http_relay.proofs.side.SourceSide.frame_raw.Goals as goal

pub returns-in-Ok-clause-reads : goal.returns-in-Ok-clause-reads
returns-in-Ok-clause-reads c =
    let before = c.args.self.now in
    let new : SourceSide = record {
      alloc = before.alloc;
      asks = before.asks;
      head = before.head;
      head_fault = before.head_fault;
      body = c.frame.new.self;
      raw = c.advance.new.self;
      judged = before.judged;
      interims = before.interims;
      fault = before.fault;
    } in
    framed_raw before new c.in-Ok.framed.events.items c.in-Ok.framed.used
    (take (in_sum c.in-Ok.framed.events.items) c.frame.new.out) false
    (record { asks = refl; head = refl; way = c.in-Ok.ensures.framing })
    (subst (λ (t : List ℕ). BodyReads before.body c.frame.new.self c.in-Ok.framed.events.items (take c.in-Ok.framed.used t)
    (take (in_sum c.in-Ok.framed.events.items) c.frame.new.out) false) c.as_slice.ensures c.in-Ok.ensures.reads)
    c.advance.ensures.items

pub returns-in-Ok-clause-kept : goal.returns-in-Ok-clause-kept
returns-in-Ok-clause-kept c =
    let before = c.args.self.now in
    omega (arith, ap length c.advance.ensures.items, length-drop c.in-Ok.framed.used before.raw.items)
