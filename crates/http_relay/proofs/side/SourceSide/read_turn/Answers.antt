-- A read turn is what a transaction asks of a source, also with the fault that it keeps, and where the room for raw bytes is given back; an
-- old fault comes again.
use Rattle.std.proofs.Common.{◌≡◌, length, sym, ap, ◌∙◌, Some, None, rules}
use Rattle.adapt_sides.specs.declared.fault.RelayFault.{RelayFault}
use Rattle.http_relay.specs.declared.side.SourceSide.{SourceSide}
use Rattle.http_relay.proofs.Turning.{turn_kept, as_source, source_again}
use Rattle.http_relay.proofs.side.SourceSide.read_turn.Goals as goal

pub returns-in-Some-clause-source : goal.returns-in-Some-clause-source
returns-in-Some-clause-source g c = source_again (length c.args.out.now) c.args.self.now (g.W.Wire.past c.args.wire.now) c.args.out.now
    c.in-Some.fault c.in-Some.is

pub returns-in-Err-clause-source : goal.returns-in-Err-clause-source
returns-in-Err-clause-source g c =
    let none : c.args.self.now.fault ≡ None = search rules in
    let turned = c.frame_or_read-turned in
    let given_back = c.free_memory.ensures in
    let mid : SourceSide = c.free_memory.new.self in
    let new : SourceSide = record {
      alloc = mid.alloc;
      asks = mid.asks;
      head = mid.head;
      head_fault = mid.head_fault;
      body = mid.body;
      raw = mid.raw;
      judged = mid.judged;
      interims = mid.interims;
      fault = Some c.in-Err.fault;
    } in
    as_source (length c.args.out.now) c.args.self.now new (g.W.Wire.past c.args.wire.now) (g.W.Wire.past turned.new.wire)
    turned.new.out turned.result turned.auto.out
    (record {
      sound = λ t e. cc;
      again = λ f e. (let odd : Some f ≡ None = sym e ∙ none in cc);
      stays = λ f e. (let is : c.in-Err.fault ≡ f = cc in ap (λ (h : RelayFault). Some h) is);
    })
    (turn_kept (length c.args.out.now) c.args.self.now turned.new.self new (g.W.Wire.past c.args.wire.now) (g.W.Wire.past turned.new.wire)
    turned.new.out turned.result (record { asks = given_back.asks; head = given_back.head; body = given_back.body }) given_back.raw
    turned.ensures.turn)

pub returns-in-Err-clause-turn : goal.returns-in-Err-clause-turn
returns-in-Err-clause-turn g c = λ n.
    let turned = c.frame_or_read-turned in
    let given_back = c.free_memory.ensures in
    turn_kept (length c.args.out.now) c.args.self.now turned.new.self _ (g.W.Wire.past c.args.wire.now) (g.W.Wire.past turned.new.wire)
    turned.new.out turned.result (record { asks = given_back.asks; head = given_back.head; body = given_back.body }) given_back.raw
    turned.ensures.turn

pub returns-in_default-turned-clause-source : goal.returns-in_default-turned-clause-source
returns-in_default-turned-clause-source g c =
    let none : c.args.self.now.fault ≡ None = search rules in
    let turned = c.frame_or_read-turned in
    let given_back = c.free_memory.ensures in
    let left : c.free_memory.new.self.fault ≡ None = given_back.fault ∙ (turned.ensures.fault ∙ none) in
    as_source (length c.args.out.now) c.args.self.now c.free_memory.new.self (g.W.Wire.past c.args.wire.now)
    (g.W.Wire.past turned.new.wire) turned.new.out turned.result turned.auto.out
    (record {
      sound = λ t e. left;
      again = λ f e. (let odd : Some f ≡ None = sym e ∙ none in cc);
      stays = λ f e. elim (c.in_default-turned.not-Err f e) [ ];
    })
    (turn_kept (length c.args.out.now) c.args.self.now turned.new.self c.free_memory.new.self (g.W.Wire.past c.args.wire.now)
    (g.W.Wire.past turned.new.wire) turned.new.out turned.result
    (record { asks = given_back.asks; head = given_back.head; body = given_back.body }) given_back.raw turned.ensures.turn)

pub returns-in_default-turned-clause-turn : goal.returns-in_default-turned-clause-turn
returns-in_default-turned-clause-turn g c = λ n.
    let turned = c.frame_or_read-turned in
    let given_back = c.free_memory.ensures in
    turn_kept (length c.args.out.now) c.args.self.now turned.new.self _ (g.W.Wire.past c.args.wire.now) (g.W.Wire.past turned.new.wire)
    turned.new.out turned.result (record { asks = given_back.asks; head = given_back.head; body = given_back.body }) given_back.raw
    turned.ensures.turn
