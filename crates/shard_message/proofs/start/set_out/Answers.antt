-- What begins is the planned message over these connections; without memory for it they come back as they were.
use Rattle.std.proofs.Common.{◌≡◌, Bool, [], Option, Some, None, IfSome, refl, ap, sym, subst, ◌∙◌, is_some}
use Rattle.std.specs.Prelude.{Box}
use Rattle.std.specs.declared.alloc.Global.{Global}
use Rattle.adapt_turn.specs.ChosenHead.{wire_of}
use Rattle.icap_client.specs.Turns.{Service}
use Rattle.proxy_rules.specs.Offers.{text_of}
use Rattle.proxy_rules.specs.Running.{StandsOver}
use Rattle.proxy_rules.specs.Since.{Since, first_snapshot}
use Rattle.proxy_rules.specs.Arrivals.{Arrival, Came}
use Rattle.proxy_rules.specs.Beginnings.{MayBegin, service_end_of}
use Rattle.shard_message.specs.declared.planning.Planned.{Planned}
use Rattle.shard_message.specs.Begun.{BeginsWith, beginning, way_by}
use Rattle.shard_message.proofs.start.set_out.Goals as goal

-- the same message, offered alike, may begin too
same_may : {m n : Arrival} {p q : Planned} {a b : Bool} → m ≡ n → p ≡ q → a ≡ b → MayBegin m p.offer a → MayBegin n q.offer b
same_may {m} {n} {p} {q} {a} {b} d e f may =
    subst (λ (x : Arrival). MayBegin x q.offer b) d
    (subst (λ (x : Planned). MayBegin m x.offer b) e (subst (λ (x : Bool). MayBegin m p.offer x) f may))

pub begin-running-requires-clause-may : goal.begin-running-requires-clause-may
begin-running-requires-clause-may g c = same_may (c.deref.ensures ∙ sym c.into_inner.ensures)
    (c.deref-2.ensures ∙ sym c.into_inner-offer.ensures) c.is_some-is_connected.ensures (c.may_begin.ensures.0 c.if-not-may_begin.false)

pub returns-in-Ok-clause-begins : goal.returns-in-Ok-clause-begins
returns-in-Ok-clause-begins g c =
    let running = c.begin-running.result in
    let offer : c.into_inner-offer.result ≡ c.in-Some.planned.value = c.into_inner-offer.ensures in
    let message : c.into_inner.result ≡ c.args.message.value = c.into_inner.ensures in
    subst (λ r. BeginsWith (beginning c.args.room.planned c.args.message.value c.args.manner) c.args.way.source c.args.way.service
    c.args.way.next r.tx.hold.history r.tx.pace r.tx.ends)
    (sym c.in-Ok.ensures.ok)
    (record {
      planned = c.in-Some.planned;
      planned_is = c.in-Some.is;
      may = same_may c.deref.ensures c.deref-2.ensures c.is_some-is_connected.ensures (c.may_begin.ensures.0 c.if-not-may_begin.false);
      history_is = subst (λ (p : Planned). running.tx.hold.history ≡ record { plan = p.offer.plan; events = [] }) offer
          c.begin-running.ensures.begun;
      pace_is = c.begin-running.ensures.pace;
      message = subst (λ (m : Arrival). (running.tx.ends.source ≡ m.side) × (running.tx.ends.maker.user ≡ m.user)) message
          (c.begin-running.ensures.sides.0, c.begin-running.ensures.sides.1);
      last = c.begin-running.ensures.sides.2;
      origin = subst (λ (p : Planned). c.args.message.value.user ≡ None
          → running.tx.ends.maker.origin ≡ way_by p.route c.args.manner.origin) offer
          (subst (λ (m : Arrival). m.user ≡ None → running.tx.ends.maker.origin
          ≡ way_by c.into_inner-offer.result.route c.args.manner.origin) message
          (λ none. c.begin-running.ensures.origin none ∙ c.way_by.ensures));
      service = subst (λ (p : Planned). running.tx.ends.service ≡ service_end_of p.offer.side c.args.way.service) offer
          c.begin-running.ensures.sides.3;
      wires = c.begin-running.ensures.wires;
    })

pub returns-in-Ok-clause-since : goal.returns-in-Ok-clause-since
returns-in-Ok-clause-since g c = λ first ahead since beside came.
    let running = c.begin-running.result in
    let offer : c.into_inner-offer.result ≡ c.in-Some.planned.value = c.into_inner-offer.ensures in
    let message : c.into_inner.result ≡ c.args.message.value = c.into_inner.ensures in
    let comes = subst (λ (m : Arrival). Came g.W.SourceWire.Wire first ahead since beside m.side c.args.way.source) (sym message) came in
    let stands = StandsOver running.tx.hold running.tx.ends running.tx.refusing in
    let start = λ (p : Planned). first_snapshot (text_of p.offer.side) ahead beside first c.args.way.next c.args.way.service in
    let line = wire_of running.tx.ends.service in
    let began = subst (λ (p : Planned). Since g.W.SourceWire.Wire g.W.ServiceWire.Wire g.W.NextWire.Wire (start p) stands
    running.tx.ends.source_wire line running.tx.ends.next_wire) offer
    (c.begin-running.ensures.since first ahead since beside comes) in
    subst (λ r.
    IfSome c.args.room.planned (λ planned. Since g.W.SourceWire.Wire g.W.ServiceWire.Wire g.W.NextWire.Wire (start planned.value)
    (StandsOver r.tx.hold r.tx.ends r.tx.refusing) r.tx.ends.source_wire (wire_of r.tx.ends.service) r.tx.ends.next_wire))
    (sym c.in-Ok.ensures.ok)
    (subst (λ (o : Option (Box Planned Global)). IfSome o (λ planned. Since g.W.SourceWire.Wire g.W.ServiceWire.Wire g.W.NextWire.Wire
    (start planned.value) stands running.tx.ends.source_wire line running.tx.ends.next_wire))
    (sym c.in-Some.is) began)

-- the service's connection is the one that it begins with
line_is : {W : Type 0} (side : Option Service) (wire : Option W) → is_some side ≡ is_some wire → wire_of (service_end_of side wire) ≡ wire
line_is None None e = refl
line_is None (Some w) e = absurd cc
line_is (Some s) None e = absurd cc
line_is (Some s) (Some w) e = refl

-- a function of three makes the same of the same
three : {P Q R T : Type 0} (f : P → Q → R → T) {p p' : P} {q q' : Q} {r r' : R} → p ≡ p' → q ≡ q' → r ≡ r' → f p q r ≡ f p' q' r'
three {P} {Q} {R} {T} f {p} {p'} {q} {q'} {r} {r'} d e h = ap (λ x. f x q r) d ∙ (ap (λ x. f p' x r) e ∙ ap (λ x. f p' q' x) h)

pub returns-in-Err-clause-back : goal.returns-in-Err-clause-back
returns-in-Err-clause-back g c =
    let running = c.begin-running.result in
    let may = same_may (c.deref.ensures ∙ sym c.into_inner.ensures) (c.deref-2.ensures ∙ sym c.into_inner-offer.ensures)
    c.is_some-is_connected.ensures (c.may_begin.ensures.0 c.if-not-may_begin.false) in
    let tx : c.into_tx.result ≡ running.tx = c.into_tx.ensures ∙ ap (λ r. r.tx) c.in-Err.ensures.value_returned in
    let wires = c.left_of.ensures.wires in
    let line = ap (λ z. wire_of z.ends.service) tx ∙ (ap (λ z. wire_of z) c.begin-running.ensures.sides.3
    ∙ line_is c.into_inner-offer.result.offer.side c.args.way.service may.line) in (
      c.left_of.ensures.room.0,
      c.left_of.ensures.room.1,
      three (λ a b d. record { source = a; service = b; next = d })
          (wires.0 ∙ (ap (λ z. z.ends.source_wire) tx ∙ c.begin-running.ensures.wires.0)) (wires.1 ∙ line)
          (wires.2 ∙ (ap (λ z. z.ends.next_wire) tx ∙ c.begin-running.ensures.wires.1)),
    )
