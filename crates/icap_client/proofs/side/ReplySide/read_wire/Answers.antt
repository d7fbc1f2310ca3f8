-- Bytes that came are framed or refused; else the turn tells that the wire waits, ended or failed, or that no memory was found.
use Rattle.std.proofs.Common.{true, false, length, refl, ap, subst}
use Rattle.trace_core.specs.History.{shows}
use Rattle.icap_client.specs.Reading.{ReadSide, IsReadDue}
use Rattle.adapt_sides.specs.Filling.{IsFilled}
use Rattle.adapt_sides.specs.declared.filling.Filled.TheVariants as filled
use Rattle.adapt_sides.specs.declared.turn.Turn.{Turn}
use Rattle.icap_client.proofs.ReadTurns.{turn_bytes, turn_bytes_refused, turn_waited, turn_ended, turn_failed, turn_full}
use Rattle.icap_client.proofs.side.ReplySide.read_wire.Goals as goal

pub returns-in-Ok-clause-turn : goal.returns-in-Ok-clause-turn
returns-in-Ok-clause-turn g c = λ a m.
    let due : IsReadDue (shows c.args.state.now) a (length c.args.out.now) c.args.self.now =
    record { going_on = c.requires.going_on; some_room = c.requires.room; may = m; waits = c.requires.waits } in
    let mid : ReadSide = record {
      reader = c.self.inside.reader;
      raw = c.fill.new.self.bytes;
      fault = c.self.inside.fault;
      room = c.fill.new.self.room;
    } in
    let t : Turn = record { events = c.in-Ok.events; waiting = false } in
    turn_bytes (shows c.args.state.now) a (length c.args.out.now) c.args.self.now mid c.frame_raw.new.self (g.W.Wire.past c.args.wire.now)
    (g.W.Wire.past c.fill.new.wire) c.frame_raw.new.out t c.requires.heard due
    (ap (λ (s : ReadSide). s.reader) c.self.view_is) (subst (λ (s : ReadSide).
    IsFilled (g.W.Wire.past c.args.wire.now) (g.W.Wire.past c.fill.new.wire) s.raw c.fill.new.self.bytes filled.Bytes) c.self.view_is
    c.in-Bytes.ensures.filled) c.in-Ok.ensures.hears c.in-Ok.ensures.room refl

pub returns-in-Err-clause-turn : goal.returns-in-Err-clause-turn
returns-in-Err-clause-turn g c = λ a m.
    let due : IsReadDue (shows c.args.state.now) a (length c.args.out.now) c.args.self.now =
    record { going_on = c.requires.going_on; some_room = c.requires.room; may = m; waits = c.requires.waits } in
    let mid : ReadSide = record {
      reader = c.self.inside.reader;
      raw = c.fill.new.self.bytes;
      fault = c.self.inside.fault;
      room = c.fill.new.self.room;
    } in
    turn_bytes_refused (shows c.args.state.now) a (length c.args.out.now) c.args.self.now mid c.frame_raw.new.self
    (g.W.Wire.past c.args.wire.now) (g.W.Wire.past c.fill.new.wire) c.frame_raw.new.out c.in-Err.fault c.requires.heard due
    (ap (λ (s : ReadSide). s.reader) c.self.view_is) (subst (λ (s : ReadSide).
    IsFilled (g.W.Wire.past c.args.wire.now) (g.W.Wire.past c.fill.new.wire) s.raw c.fill.new.self.bytes filled.Bytes) c.self.view_is
    c.in-Bytes.ensures.filled) c.in-Err.ensures.kept c.in-Err.ensures.refuses

pub returns-in-Wait-clause-turn : goal.returns-in-Wait-clause-turn
returns-in-Wait-clause-turn g c = λ a m.
    let due : IsReadDue (shows c.args.state.now) a (length c.args.out.now) c.args.self.now =
    record { going_on = c.requires.going_on; some_room = c.requires.room; may = m; waits = c.requires.waits } in
    let mid : ReadSide = record {
      reader = c.self.inside.reader;
      raw = c.fill.new.self.bytes;
      fault = c.self.inside.fault;
      room = c.fill.new.self.room;
    } in
    let t : Turn = record { events = c.new.result; waiting = true } in
    turn_waited (shows c.args.state.now) a (length c.args.out.now) c.args.self.now mid (g.W.Wire.past c.args.wire.now)
    (g.W.Wire.past c.fill.new.wire) c.args.out.now t due
    (ap (λ (s : ReadSide). s.reader) c.self.view_is) (subst (λ (s : ReadSide).
    IsFilled (g.W.Wire.past c.args.wire.now) (g.W.Wire.past c.fill.new.wire) s.raw c.fill.new.self.bytes filled.Wait) c.self.view_is
    c.in-Wait.ensures.filled) c.new.ensures refl

pub returns-in-Ended-clause-turn : goal.returns-in-Ended-clause-turn
returns-in-Ended-clause-turn g c = λ a m.
    let due : IsReadDue (shows c.args.state.now) a (length c.args.out.now) c.args.self.now =
    record { going_on = c.requires.going_on; some_room = c.requires.room; may = m; waits = c.requires.waits } in
    let mid : ReadSide = record {
      reader = c.self.inside.reader;
      raw = c.fill.new.self.bytes;
      fault = c.self.inside.fault;
      room = c.fill.new.self.room;
    } in
    turn_ended (shows c.args.state.now) a (length c.args.out.now) c.args.self.now mid (g.W.Wire.past c.args.wire.now)
    (g.W.Wire.past c.fill.new.wire) c.args.out.now due (ap (λ (s : ReadSide). s.reader) c.self.view_is)
    (subst (λ (s : ReadSide). IsFilled (g.W.Wire.past c.args.wire.now) (g.W.Wire.past c.fill.new.wire) s.raw c.fill.new.self.bytes
    filled.Ended) c.self.view_is c.in-Ended.ensures.filled)

pub returns-in-Failed-clause-turn : goal.returns-in-Failed-clause-turn
returns-in-Failed-clause-turn g c = λ a m.
    let due : IsReadDue (shows c.args.state.now) a (length c.args.out.now) c.args.self.now =
    record { going_on = c.requires.going_on; some_room = c.requires.room; may = m; waits = c.requires.waits } in
    let mid : ReadSide = record {
      reader = c.self.inside.reader;
      raw = c.fill.new.self.bytes;
      fault = c.self.inside.fault;
      room = c.fill.new.self.room;
    } in
    turn_failed (shows c.args.state.now) a (length c.args.out.now) c.args.self.now mid (g.W.Wire.past c.args.wire.now)
    (g.W.Wire.past c.fill.new.wire) c.args.out.now due (ap (λ (s : ReadSide). s.reader) c.self.view_is)
    (subst (λ (s : ReadSide). IsFilled (g.W.Wire.past c.args.wire.now) (g.W.Wire.past c.fill.new.wire) s.raw c.fill.new.self.bytes
    filled.Failed) c.self.view_is c.in-Failed.ensures.filled)

pub returns-in-NoMemory-clause-turn : goal.returns-in-NoMemory-clause-turn
returns-in-NoMemory-clause-turn g c = λ a m.
    let mid : ReadSide = record {
      reader = c.self.inside.reader;
      raw = c.fill.new.self.bytes;
      fault = c.self.inside.fault;
      room = c.fill.new.self.room;
    } in
    turn_full (shows c.args.state.now) a (length c.args.out.now) c.args.self.now mid (g.W.Wire.past c.args.wire.now)
    (g.W.Wire.past c.fill.new.wire) c.args.out.now (ap (λ (s : ReadSide). s.reader) c.self.view_is)
    (subst (λ (s : ReadSide). IsFilled (g.W.Wire.past c.args.wire.now) (g.W.Wire.past c.fill.new.wire) s.raw c.fill.new.self.bytes
    filled.NoMemory) c.self.view_is c.in-NoMemory.ensures.filled)
