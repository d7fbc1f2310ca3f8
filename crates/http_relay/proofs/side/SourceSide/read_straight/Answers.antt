-- Each answer of the one read makes a read turn: bytes are the body's as they came, an end closes the body, a failure is the fault.
use Rattle.std.proofs.Common.{◌≡◌, ℕ, false, true, List, [], ◌++◌, length, take, refl, sym, ap, subst, ◌∙◌, arith}
use Rattle.std.proofs.Math.Seq.{drop-length, take-length}
use Rattle.std.proofs.lemmas.List.{length-take-le}
use Rattle.trace_core.specs.Turns.{in_sum}
use Rattle.http_relay.specs.Events.{source_events}
use Rattle.http_relay.specs.Source.{BodyReads}
use Rattle.http_relay.specs.Reading.{SideReads}
use Rattle.http_relay.specs.declared.side.SourceSide.{SourceSide}
use Rattle.adapt_sides.specs.declared.turn.Turn.{Turn}
use Rattle.http_relay.proofs.Sides.{framed_raw}
use Rattle.http_relay.proofs.Telling.{sum_is}
use Rattle.http_relay.proofs.Turning.{turn_bytes, turn_waited, turn_end, turn_ended, turn_failed}
use Rattle.http_relay.proofs.side.SourceSide.read_straight.Goals as goal

pub returns-in-Bytes-clause-turn : goal.returns-in-Bytes-clause-turn
returns-in-Bytes-clause-turn g c =
    let old : SourceSide = c.args.self.now in
    let fits = c.in-Bytes.ensures.fits in
    let run : List ℕ = take c.in-Bytes.count c.try_read.new.buf in
    let long : length run ≡ c.in-Bytes.count =
    length-take-le c.in-Bytes.count c.try_read.new.buf (omega (arith, fits.1, c.in-Bytes.ensures.keeps)) in
    -- the side as if these bytes had been kept first
    let mid : SourceSide = record {
      alloc = old.alloc;
      asks = old.asks;
      head = old.head;
      head_fault = old.head_fault;
      body = old.body;
      raw = record { items = run; spare = 0 };
      judged = old.judged;
      interims = old.interims;
      fault = old.fault;
    } in
    let new : SourceSide = record {
      alloc = old.alloc;
      asks = old.asks;
      head = old.head;
      head_fault = old.head_fault;
      body = c.take_run.new.self;
      raw = old.raw;
      judged = old.judged;
      interims = old.interims;
      fault = old.fault;
    } in
    let t : Turn = record { events = c.take_run.result; waiting = false } in
    let sum : in_sum c.take_run.result.items ≡ c.in-Bytes.count =
    ap in_sum c.take_run.ensures.events ∙ (sum_is (length run) false ∙ long) in
    let framed : SideReads mid new c.take_run.result.items [] run false =
    framed_raw mid new c.take_run.result.items (length run) run false
    (record { asks = refl; head = refl; way = c.take_run.ensures.framing })
    (subst (λ (part : List ℕ). BodyReads old.body c.take_run.new.self c.take_run.result.items part run false) (sym (take-length run))
    c.take_run.ensures.reads)
    (c.requires.empty ∙ sym (drop-length run)) in
    turn_bytes (length c.args.out.now) old mid new (g.W.Wire.past c.args.wire.now) (g.W.Wire.past c.try_read.new.self) c.try_read.new.buf t
    (record { asks = refl; head = refl; body = refl })
    (record {
      going_on = c.requires.runs.going_on;
      not_over = c.requires.not_over;
      some_room = c.requires.some_room;
      none_kept = c.requires.empty;
    })
    (run, omega (arith, long, fits.0), ap (λ (before : List ℕ). before ++ run) (sym c.requires.empty), λ p b. c.in-Bytes.ensures.past p b)
    (subst (λ (k : ℕ). SideReads mid new c.take_run.result.items [] (take k c.try_read.new.buf) false) (sym sum) framed)
    c.take_run.ensures.ends (omega (arith, sum, fits.1)) refl

pub returns-in-Wait-clause-turn : goal.returns-in-Wait-clause-turn
returns-in-Wait-clause-turn g c =
    let t : Turn = record { events = c.new.result; waiting = true } in
    turn_waited (length c.args.out.now) c.args.self.now c.args.self.now (g.W.Wire.past c.args.wire.now)
    (g.W.Wire.past c.try_read.new.self) c.try_read.new.buf t (record { asks = refl; head = refl; body = refl })
    (record {
      going_on = c.requires.runs.going_on;
      not_over = c.requires.not_over;
      some_room = c.requires.some_room;
      none_kept = c.requires.empty;
    })
    (refl, λ p b. c.in-Wait.ensures.past p b) c.new.ensures refl

pub returns-in-Ok-clause-turn : goal.returns-in-Ok-clause-turn
returns-in-Ok-clause-turn g c =
    let old : SourceSide = c.args.self.now in
    let new : SourceSide = record {
      alloc = old.alloc;
      asks = old.asks;
      head = old.head;
      head_fault = old.head_fault;
      body = c.close.new.self;
      raw = old.raw;
      judged = old.judged;
      interims = old.interims;
      fault = old.fault;
    } in
    let t : Turn = record { events = c.in-Ok.events; waiting = false } in
    turn_end (length c.args.out.now) old new (g.W.Wire.past c.args.wire.now) (g.W.Wire.past c.try_read.new.self) c.try_read.new.buf t
    (record { asks = refl; head = refl; way = c.in-Ok.ensures.framing })
    (record {
      going_on = c.requires.runs.going_on;
      not_over = c.requires.not_over;
      some_room = c.requires.some_room;
      none_kept = c.requires.empty;
    })
    (refl, λ p b. c.in-Ended.ensures.past p b) c.in-Ok.ensures.reads c.in-Ok.ensures.ends c.in-Ok.ensures.none
    (λ e. let odd : source_events 0 true ≡ [] = sym c.in-Ok.ensures.some ∙ e in cc) refl

pub returns-in-Err-clause-turn : goal.returns-in-Err-clause-turn
returns-in-Err-clause-turn g c =
    let old : SourceSide = c.args.self.now in
    let new : SourceSide = record {
      alloc = old.alloc;
      asks = old.asks;
      head = old.head;
      head_fault = old.head_fault;
      body = c.close.new.self;
      raw = old.raw;
      judged = old.judged;
      interims = old.interims;
      fault = old.fault;
    } in
    turn_ended (length c.args.out.now) old new (g.W.Wire.past c.args.wire.now) (g.W.Wire.past c.try_read.new.self) c.try_read.new.buf
    c.in-Err.fault (record { asks = refl; head = refl; body = c.in-Err.ensures.err })
    (record {
      going_on = c.requires.runs.going_on;
      not_over = c.requires.not_over;
      some_room = c.requires.some_room;
      none_kept = c.requires.empty;
    })
    (refl, λ p b. c.in-Ended.ensures.past p b) c.in-Err.ensures.refuses

pub returns-in-Fault-clause-turn : goal.returns-in-Fault-clause-turn
returns-in-Fault-clause-turn g c = turn_failed (length c.args.out.now) c.args.self.now c.args.self.now (g.W.Wire.past c.args.wire.now)
    (g.W.Wire.past c.try_read.new.self) c.try_read.new.buf (record { asks = refl; head = refl; body = refl })
    (record {
      going_on = c.requires.runs.going_on;
      not_over = c.requires.not_over;
      some_room = c.requires.some_room;
      none_kept = c.requires.empty;
    })
    (refl, λ p b. c.in-Fault.ensures.past p b)
