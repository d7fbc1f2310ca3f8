-- Whatever the wire answers, the turn is a write turn, notes whether the last Stop is fixed, and leaves the heads' text.
use Rattle.std.proofs.Common.{◌≡◌, ◌+◌, ◌&&◌, ◌||◌, subst, ◌∙◌, refl, Some, None, Ok, Err, rules}
use Rattle.trace_core.specs.declared.history.Seen.{Seen}
use Rattle.icap_client.specs.Turns.{is_last_at}
use Rattle.trace_core.specs.History.{shows}
use Rattle.trace_core.proofs.Sound.{sound}
use Rattle.wire_kit.specs.declared.wire.Put.TheVariants as put
use Rattle.adapt_sides.specs.declared.fault.ClientFault.TheVariants.{Device}
use Rattle.chunk_writer.proofs.Moving.{reaches}
use Rattle.icap_client.proofs.Marked.{last_after}
use Rattle.icap_client.proofs.DropText.{head_kept}
use Rattle.icap_client.proofs.Answering.{turned, fits_took, fits_wait, fits_none, none_at_wait, none_at_fault, idle_events}
use Rattle.icap_client.proofs.service.write_once.Goals as goal

pub returns-in-Some-Fault : goal.returns-in-Some-Fault
returns-in-Some-Fault g c =
    let x = shows c.args.state.now in
    let tape = c.args.tape.now in
    let wrote = c.write-wrote.result in
    let next = c.decide-next.result in
    let v = c.args.writer.now in
    let o = c.write-wrote.ensures in
    let answer : wrote.answer ≡ Some put.Fault = search rules in
    record {
      turn = turned x tape next v c.write-wrote.new.self _ _ (Err Device) wrote.answer wrote.sent wrote.ended
          (sound c.args.state.now.plan c.args.state.now.events c.trace.ensures.legal) c.requires.tape c.decide-next.ensures o.wire
          (o.silent, o.asks) o.moves
          (none_at_fault wrote.answer wrote.sent wrote.ended answer o.still) (refl, answer);
      last_stop = subst (λ (y : Seen). c.has_last_stop.result ≡ ((wrote.ended && is_last_at y (next.from + next.count)) || y.last_stop))
          c.seen-seen.ensures c.has_last_stop.ensures
          ∙ last_after x wrote.sent next.count next.from wrote.ended _ (none_at_fault wrote.answer wrote.sent wrote.ended answer o.still)
          c.decide-next.ensures.from
          (λ e. ((reaches tape next v c.write-wrote.new.self wrote.sent wrote.ended _ o.moves).all e).0);
      head = head_kept tape next v c.write-wrote.new.self wrote.sent wrote.ended _ o.moves;
    }

pub returns-in-Some-Took : goal.returns-in-Some-Took
returns-in-Some-Took g c =
    let x = shows c.args.state.now in
    let tape = c.args.tape.now in
    let wrote = c.write-wrote.result in
    let next = c.decide-next.result in
    let v = c.args.writer.now in
    let o = c.write-wrote.ensures in
    let answer : wrote.answer ≡ Some (put.Took c.in-Some-Took.field-0-0) = search rules in
    record {
      turn = turned x tape next v c.write-wrote.new.self _ _ (Ok c.turn_of.result) wrote.answer wrote.sent wrote.ended
          (sound c.args.state.now.plan c.args.state.now.events c.trace.ensures.legal) c.requires.tape c.decide-next.ensures o.wire
          (o.silent, o.asks) o.moves
          c.turn_of.ensures.events (fits_took x c.write-wrote.new.self wrote.answer c.in-Some-Took.field-0-0 c.turn_of.result answer
          (λ h. (c.turn_of.ensures.waits h).1));
      last_stop = subst (λ (y : Seen). c.has_last_stop.result ≡ ((wrote.ended && is_last_at y (next.from + next.count)) || y.last_stop))
          c.seen-seen.ensures c.has_last_stop.ensures
          ∙ last_after x wrote.sent next.count next.from wrote.ended _ (c.turn_of.ensures.events) c.decide-next.ensures.from
          (λ e. ((reaches tape next v c.write-wrote.new.self wrote.sent wrote.ended _ o.moves).all e).0);
      head = head_kept tape next v c.write-wrote.new.self wrote.sent wrote.ended _ o.moves;
    }

pub returns-in-Some-Wait : goal.returns-in-Some-Wait
returns-in-Some-Wait g c =
    let x = shows c.args.state.now in
    let tape = c.args.tape.now in
    let wrote = c.write-wrote.result in
    let next = c.decide-next.result in
    let v = c.args.writer.now in
    let o = c.write-wrote.ensures in
    let turn = c.turn_of-in-Some-Wait in
    let answer : wrote.answer ≡ Some put.Wait = search rules in
    record {
      turn = turned x tape next v c.write-wrote.new.self _ _ (Ok turn.result) wrote.answer wrote.sent wrote.ended
          (sound c.args.state.now.plan c.args.state.now.events c.trace.ensures.legal) c.requires.tape c.decide-next.ensures o.wire
          (o.silent, o.asks) o.moves
          (turn.ensures.events ∙ none_at_wait wrote.answer wrote.sent wrote.ended answer o.still)
          (fits_wait x c.write-wrote.new.self wrote.answer turn.result answer turn.ensures.events (λ h. turn.ensures.goes h refl));
      last_stop = subst (λ (y : Seen). c.has_last_stop.result ≡ ((wrote.ended && is_last_at y (next.from + next.count)) || y.last_stop))
          c.seen-seen.ensures c.has_last_stop.ensures
          ∙ last_after x wrote.sent next.count next.from wrote.ended _ (turn.ensures.events
          ∙ none_at_wait wrote.answer wrote.sent wrote.ended answer o.still) c.decide-next.ensures.from
          (λ e. ((reaches tape next v c.write-wrote.new.self wrote.sent wrote.ended _ o.moves).all e).0);
      head = head_kept tape next v c.write-wrote.new.self wrote.sent wrote.ended _ o.moves;
    }

pub returns-in-None : goal.returns-in-None
returns-in-None g c =
    let x = shows c.args.state.now in
    let tape = c.args.tape.now in
    let wrote = c.write-wrote.result in
    let next = c.decide-next.result in
    let v = c.args.writer.now in
    let o = c.write-wrote.ensures in
    let turn = c.turn_of-in-None in
    let answer : wrote.answer ≡ None = c.in-None.is in
    let idle = o.idle answer in
    record {
      turn = turned x tape next v c.write-wrote.new.self _ _ (Ok turn.result) wrote.answer wrote.sent wrote.ended
          (sound c.args.state.now.plan c.args.state.now.events c.trace.ensures.legal) c.requires.tape c.decide-next.ensures o.wire
          (o.silent, o.asks) o.moves
          (turn.ensures.events ∙ idle_events next v wrote.sent wrote.ended idle)
          (fits_none x tape next v c.write-wrote.new.self wrote.answer wrote.sent wrote.ended _ turn.result answer c.decide-next.ensures
          o.moves idle turn.ensures.events (λ h. (turn.ensures.waits h).0) (λ h. turn.ensures.goes h refl));
      last_stop = subst (λ (y : Seen). c.has_last_stop.result ≡ ((wrote.ended && is_last_at y (next.from + next.count)) || y.last_stop))
          c.seen-seen.ensures c.has_last_stop.ensures
          ∙ last_after x wrote.sent next.count next.from wrote.ended _ (turn.ensures.events
          ∙ idle_events next v wrote.sent wrote.ended idle) c.decide-next.ensures.from
          (λ e. ((reaches tape next v c.write-wrote.new.self wrote.sent wrote.ended _ o.moves).all e).0);
      head = head_kept tape next v c.write-wrote.new.self wrote.sent wrote.ended _ o.moves;
    }
