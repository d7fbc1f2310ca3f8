-- Each answer of the one read makes a read turn: bytes are framed, an end closes the body, a failure is the fault.
use Rattle.std.proofs.Common.{◌≡◌, true, false, [], length, refl, sym, ◌∙◌}
use Rattle.http_relay.specs.Events.{source_events}
use Rattle.http_relay.specs.declared.side.SourceSide.{SourceSide}
use Rattle.adapt_sides.specs.declared.turn.Turn.{Turn}
use Rattle.http_relay.proofs.Turning.{turn_bytes, turn_bytes_refused, turn_waited, turn_end, turn_ended, turn_failed, turn_full}
use Rattle.http_relay.proofs.side.SourceSide.read_wire.Goals as goal

pub returns-in-Ok-clause-turn : goal.returns-in-Ok-clause-turn
returns-in-Ok-clause-turn g c =
    let mid : SourceSide = record {
      alloc = c.args.self.now.alloc;
      asks = c.args.self.now.asks;
      head = c.args.self.now.head;
      head_fault = c.args.self.now.head_fault;
      body = c.args.self.now.body;
      raw = c.fill.new.raw;
      judged = c.args.self.now.judged;
      interims = c.args.self.now.interims;
      fault = c.args.self.now.fault;
    } in
    let t : Turn = record { events = c.in-Ok.events; waiting = false } in
    turn_bytes (length c.args.out.now) c.args.self.now mid c.frame_raw.new.self (g.W.Wire.past c.args.wire.now)
    (g.W.Wire.past c.fill.new.wire) c.frame_raw.new.out t (record { asks = refl; head = refl; body = refl })
    (record {
      going_on = c.requires.going_on;
      not_over = c.requires.not_over;
      some_room = c.requires.some_room;
      none_kept = c.requires.empty;
    }) c.in-Bytes.ensures.filled c.in-Ok.ensures.reads c.in-Ok.ensures.ends c.in-Ok.ensures.room refl

pub returns-in-Err-clause-turn : goal.returns-in-Err-clause-turn
returns-in-Err-clause-turn g c =
    let mid : SourceSide = record {
      alloc = c.args.self.now.alloc;
      asks = c.args.self.now.asks;
      head = c.args.self.now.head;
      head_fault = c.args.self.now.head_fault;
      body = c.args.self.now.body;
      raw = c.fill.new.raw;
      judged = c.args.self.now.judged;
      interims = c.args.self.now.interims;
      fault = c.args.self.now.fault;
    } in
    turn_bytes_refused (length c.args.out.now) c.args.self.now mid c.frame_raw.new.self (g.W.Wire.past c.args.wire.now)
    (g.W.Wire.past c.fill.new.wire) c.frame_raw.new.out c.in-Err.fault (record { asks = refl; head = refl; body = refl })
    c.in-Err.ensures.err (record {
      going_on = c.requires.going_on;
      not_over = c.requires.not_over;
      some_room = c.requires.some_room;
      none_kept = c.requires.empty;
    }) c.in-Bytes.ensures.filled c.in-Err.ensures.refuses

pub returns-in-Wait-clause-turn : goal.returns-in-Wait-clause-turn
returns-in-Wait-clause-turn g c =
    let mid : SourceSide = record {
      alloc = c.args.self.now.alloc;
      asks = c.args.self.now.asks;
      head = c.args.self.now.head;
      head_fault = c.args.self.now.head_fault;
      body = c.args.self.now.body;
      raw = c.fill.new.raw;
      judged = c.args.self.now.judged;
      interims = c.args.self.now.interims;
      fault = c.args.self.now.fault;
    } in
    let t : Turn = record { events = c.new.result; waiting = true } in
    turn_waited (length c.args.out.now) c.args.self.now mid (g.W.Wire.past c.args.wire.now) (g.W.Wire.past c.fill.new.wire) c.args.out.now t
    (record { asks = refl; head = refl; body = refl }) (record {
      going_on = c.requires.going_on;
      not_over = c.requires.not_over;
      some_room = c.requires.some_room;
      none_kept = c.requires.empty;
    }) c.in-Wait.ensures.filled c.new.ensures refl

pub returns-in-Ok-close-clause-turn : goal.returns-in-Ok-close-clause-turn
returns-in-Ok-close-clause-turn g c =
    let new : SourceSide = record {
      alloc = c.args.self.now.alloc;
      asks = c.args.self.now.asks;
      head = c.args.self.now.head;
      head_fault = c.args.self.now.head_fault;
      body = c.close.new.self;
      raw = c.fill.new.raw;
      judged = c.args.self.now.judged;
      interims =
          c.args.self.now.interims;
      fault = c.args.self.now.fault;
    } in
    let t : Turn = record { events = c.in-Ok-close.events; waiting = false } in
    turn_end (length c.args.out.now) c.args.self.now new (g.W.Wire.past c.args.wire.now) (g.W.Wire.past c.fill.new.wire) c.args.out.now t
    (record { asks = refl; head = refl; way = c.in-Ok-close.ensures.framing })
    (record {
      going_on = c.requires.going_on;
      not_over = c.requires.not_over;
      some_room = c.requires.some_room;
      none_kept = c.requires.empty;
    }) c.in-Ended.ensures.filled c.in-Ok-close.ensures.reads c.in-Ok-close.ensures.ends
    c.in-Ok-close.ensures.none
    (λ e. let odd : source_events 0 true ≡ [] = sym c.in-Ok-close.ensures.some ∙ e in cc) refl

pub returns-in-Err-close-clause-turn : goal.returns-in-Err-close-clause-turn
returns-in-Err-close-clause-turn g c =
    let new : SourceSide = record {
      alloc = c.args.self.now.alloc;
      asks = c.args.self.now.asks;
      head = c.args.self.now.head;
      head_fault = c.args.self.now.head_fault;
      body = c.close.new.self;
      raw = c.fill.new.raw;
      judged = c.args.self.now.judged;
      interims =
          c.args.self.now.interims;
      fault = c.args.self.now.fault;
    } in
    turn_ended (length c.args.out.now) c.args.self.now new (g.W.Wire.past c.args.wire.now) (g.W.Wire.past c.fill.new.wire) c.args.out.now
    c.in-Err-close.fault (record { asks = refl; head = refl; body = c.in-Err-close.ensures.err })
    (record {
      going_on = c.requires.going_on;
      not_over = c.requires.not_over;
      some_room = c.requires.some_room;
      none_kept = c.requires.empty;
    }) c.in-Ended.ensures.filled
    c.in-Err-close.ensures.refuses

pub returns-in-Failed-clause-turn : goal.returns-in-Failed-clause-turn
returns-in-Failed-clause-turn g c =
    let mid : SourceSide = record {
      alloc = c.args.self.now.alloc;
      asks = c.args.self.now.asks;
      head = c.args.self.now.head;
      head_fault = c.args.self.now.head_fault;
      body = c.args.self.now.body;
      raw = c.fill.new.raw;
      judged = c.args.self.now.judged;
      interims = c.args.self.now.interims;
      fault = c.args.self.now.fault;
    } in
    turn_failed (length c.args.out.now) c.args.self.now mid (g.W.Wire.past c.args.wire.now) (g.W.Wire.past c.fill.new.wire) c.args.out.now
    (record { asks = refl; head = refl; body = refl }) (record {
      going_on = c.requires.going_on;
      not_over = c.requires.not_over;
      some_room = c.requires.some_room;
      none_kept = c.requires.empty;
    }) c.in-Failed.ensures.filled

pub returns-in-NoMemory-clause-turn : goal.returns-in-NoMemory-clause-turn
returns-in-NoMemory-clause-turn g c =
    let mid : SourceSide = record {
      alloc = c.args.self.now.alloc;
      asks = c.args.self.now.asks;
      head = c.args.self.now.head;
      head_fault = c.args.self.now.head_fault;
      body = c.args.self.now.body;
      raw = c.fill.new.raw;
      judged = c.args.self.now.judged;
      interims = c.args.self.now.interims;
      fault = c.args.self.now.fault;
    } in
    turn_full (length c.args.out.now) c.args.self.now mid (g.W.Wire.past c.args.wire.now) (g.W.Wire.past c.fill.new.wire) c.args.out.now
    (record { asks = refl; head = refl; body = refl }) c.in-NoMemory.ensures.filled
