-- The first bytes of a reply make Heard; else the turn tells that the wire waits, ended or failed, or that no memory was found.
use Rattle.std.proofs.Common.{true, false, length, refl, ap, subst}
use Rattle.trace_core.specs.History.{shows}
use Rattle.icap_client.specs.Reading.{ReadSide, IsReadDue}
use Rattle.adapt_sides.specs.Filling.{IsFilled}
use Rattle.adapt_sides.specs.declared.filling.Filled.TheVariants as filled
use Rattle.adapt_sides.specs.declared.turn.Turn.{Turn}
use Rattle.icap_client.proofs.ReadTurns.{turn_first, turn_waited, turn_ended, turn_failed, turn_full}
use Rattle.icap_client.proofs.side.ReplySide.read_first.Goals as goal

pub returns-clause-turn : goal.returns-clause-turn
returns-clause-turn g c = λ a m.
    let due : IsReadDue (shows c.args.state.now) a (length c.args.out.now) c.args.self.now =
    record { going_on = c.requires.going_on; some_room = c.requires.room; may = m; waits = c.requires.waits } in
    let mid : ReadSide = record {
      reader = c.self.inside.reader;
      raw = c.fill.new.self.bytes;
      fault = c.self.inside.fault;
      room = c.fill.new.self.room;
    } in
    let t : Turn = record { events = c.event_list.result; waiting = false } in
    turn_first (shows c.args.state.now) a (length c.args.out.now) c.args.self.now mid (g.W.Wire.past c.args.wire.now)
    (g.W.Wire.past c.fill.new.wire) c.args.out.now t c.requires.may due
    (ap (λ (s : ReadSide). s.reader) c.self.view_is) (subst (λ (s : ReadSide).
    IsFilled (g.W.Wire.past c.args.wire.now) (g.W.Wire.past c.fill.new.wire) s.raw c.fill.new.self.bytes filled.Bytes) c.self.view_is
    c.in-Bytes.ensures.filled) c.event_list.ensures refl

pub returns-in-Wait-clause-turn : goal.returns-in-Wait-clause-turn
returns-in-Wait-clause-turn g c = λ a m.
    let due : IsReadDue (shows c.args.state.now) a (length c.args.out.now) c.args.self.now =
    record { going_on = c.requires.going_on; some_room = c.requires.room; may = m; waits = c.requires.waits } in
    let mid : ReadSide = record {
      reader = c.self.inside.reader;
      raw = c.fill.new.self.bytes;
      fault = c.self.inside.fault;
      room = c.fill.new.self.room;
    } in
    let t : Turn = record { events = c.new.result; waiting = true } in
    turn_waited (shows c.args.state.now) a (length c.args.out.now) c.args.self.now mid (g.W.Wire.past c.args.wire.now)
    (g.W.Wire.past c.fill.new.wire) c.args.out.now t due
    (ap (λ (s : ReadSide). s.reader) c.self.view_is) (subst (λ (s : ReadSide).
    IsFilled (g.W.Wire.past c.args.wire.now) (g.W.Wire.past c.fill.new.wire) s.raw c.fill.new.self.bytes filled.Wait) c.self.view_is
    c.in-Wait.ensures.filled) c.new.ensures refl

pub returns-in-Ended-clause-turn : goal.returns-in-Ended-clause-turn
returns-in-Ended-clause-turn g c = λ a m.
    let due : IsReadDue (shows c.args.state.now) a (length c.args.out.now) c.args.self.now =
    record { going_on = c.requires.going_on; some_room = c.requires.room; may = m; waits = c.requires.waits } in
    let mid : ReadSide = record {
      reader = c.self.inside.reader;
      raw = c.fill.new.self.bytes;
      fault = c.self.inside.fault;
      room = c.fill.new.self.room;
    } in
    turn_ended (shows c.args.state.now) a (length c.args.out.now) c.args.self.now mid (g.W.Wire.past c.args.wire.now)
    (g.W.Wire.past c.fill.new.wire) c.args.out.now due (ap (λ (s : ReadSide). s.reader) c.self.view_is)
    (subst (λ (s : ReadSide). IsFilled (g.W.Wire.past c.args.wire.now) (g.W.Wire.past c.fill.new.wire) s.raw c.fill.new.self.bytes
    filled.Ended) c.self.view_is c.in-Ended.ensures.filled)

pub returns-in-Failed-clause-turn : goal.returns-in-Failed-clause-turn
returns-in-Failed-clause-turn g c = λ a m.
    let due : IsReadDue (shows c.args.state.now) a (length c.args.out.now) c.args.self.now =
    record { going_on = c.requires.going_on; some_room = c.requires.room; may = m; waits = c.requires.waits } in
    let mid : ReadSide = record {
      reader = c.self.inside.reader;
      raw = c.fill.new.self.bytes;
      fault = c.self.inside.fault;
      room = c.fill.new.self.room;
    } in
    turn_failed (shows c.args.state.now) a (length c.args.out.now) c.args.self.now mid (g.W.Wire.past c.args.wire.now)
    (g.W.Wire.past c.fill.new.wire) c.args.out.now due (ap (λ (s : ReadSide). s.reader) c.self.view_is)
    (subst (λ (s : ReadSide). IsFilled (g.W.Wire.past c.args.wire.now) (g.W.Wire.past c.fill.new.wire) s.raw c.fill.new.self.bytes
    filled.Failed) c.self.view_is c.in-Failed.ensures.filled)

pub returns-in-NoMemory-clause-turn : goal.returns-in-NoMemory-clause-turn
returns-in-NoMemory-clause-turn g c = λ a m.
    let mid : ReadSide = record {
      reader = c.self.inside.reader;
      raw = c.fill.new.self.bytes;
      fault = c.self.inside.fault;
      room = c.fill.new.self.room;
    } in
    turn_full (shows c.args.state.now) a (length c.args.out.now) c.args.self.now mid (g.W.Wire.past c.args.wire.now)
    (g.W.Wire.past c.fill.new.wire) c.args.out.now (ap (λ (s : ReadSide). s.reader) c.self.view_is)
    (subst (λ (s : ReadSide). IsFilled (g.W.Wire.past c.args.wire.now) (g.W.Wire.past c.fill.new.wire) s.raw c.fill.new.self.bytes
    filled.NoMemory) c.self.view_is c.in-NoMemory.ensures.filled)
