-- A turn offers all that is due in one write at most, and tells what the wire took; after a fault it writes nothing.
use Rattle.std.proofs.Common.{◌≡◌, ap, sym, subst, ◌∙◌, refl, true, false, Some, None, Ok, Err, rules, inl, inr}
use Rattle.trace_core.specs.History.{shows}
use Rattle.trace_core.proofs.Sound.{sound}
use Rattle.wire_kit.specs.Past.{delta_of}
use Rattle.wire_kit.specs.declared.wire.Put.TheVariants as put
use Rattle.chunk_writer.specs.Writer.{Writer, waiting, offered, IsIdle}
use Rattle.chunk_writer.specs.Moves.{Moves}
use Rattle.http_side.specs.declared.body.Framing.{Framing}
use Rattle.adapt_sides.specs.declared.fault.RelayFault.TheVariants.{Device, Length}
use Rattle.http_relay.specs.Giving.{Hop, BreaksLength, is_message, is_whole, stage_then}
use Rattle.http_relay.specs.declared.hop.HopStage.{HopStage}
use Rattle.http_relay.proofs.Carried.{may_go_on}
use Rattle.http_relay.proofs.Answering.{turned, turned_drop_text, unmoved, faulted, still_wait, still_fault, no_delta_wait, no_delta_fault}
use Rattle.http_relay.proofs.Answering.{no_delta_none, settles_still, settles_by, took_some, none_still, fits_took, fits_wait, fits_none}
use Rattle.http_relay.proofs.Answering.{idle_events, decides_at}
use Rattle.http_relay.proofs.hop.HopWriter.write_turn.Goals as goal

pub returns-in-Some-clause-turn : goal.returns-in-Some-clause-turn
returns-in-Some-clause-turn g c =
    faulted (shows c.args.state.now) c.args.tape.now c.args.self.now _ c.in-Some.fault
    (ap (λ (h : Hop). h.fault) (sym c.self.view_is) ∙ c.in-Some.is)

pub returns-in-None-clause-turn : goal.returns-in-None-clause-turn
returns-in-None-clause-turn g c =
    let x = shows c.args.state.now in
    let none = c.in-None.ensures.none refl in
    unmoved x c.args.tape.now c.args.self.now _ _ Length (ap (λ (h : Hop). h.writer) c.self.view_is)
    (ap (λ (h : Hop). h.framing) c.self.view_is) (ap (λ (h : Hop). h.stage) c.self.view_is) (ap (λ (h : Hop). h.touched) c.self.view_is)
    (λ no. refl) (λ no. inr (
      refl,
      refl,
      ap (λ (h : Hop). is_message h.stage) (sym c.self.view_is) ∙ none.0,
      subst (λ (f : Framing). BreaksLength x f) (ap (λ (h : Hop). h.framing) c.self.view_is) none.1,
    ))

pub write-wrote-requires : goal.write-wrote-requires
write-wrote-requires g c =
    may_go_on (shows c.args.state.now) c.args.tape.now c.self.inside.framing c.self.inside.writer c.self.inside.stage c.in-Some-decide.next
    (sound c.args.state.now.plan c.args.state.now.events c.trace.ensures.legal) c.requires c.in-Some-decide.ensures.next

pub returns-in-Some-Fault-clause-turn : goal.returns-in-Some-Fault-clause-turn
returns-in-Some-Fault-clause-turn g c =
    let x = shows c.args.state.now in
    let tape = c.args.tape.now in
    let wrote = c.write-wrote.result in
    let next = c.in-Some-decide.next in
    let in' = c.self.inside in
    let text = offered in'.writer tape next in
    let o = c.write-wrote.ensures in
    let we = ap (λ (h : Hop). h.writer) c.self.view_is in
    let fe = ap (λ (h : Hop). h.framing) c.self.view_is in
    let se = ap (λ (h : Hop). h.stage) c.self.view_is in
    let ue = ap (λ (h : Hop). h.turn) c.self.view_is in
    let te = ap (λ (h : Hop). h.touched) c.self.view_is in
    let answer : wrote.answer ≡ Some put.Fault = search rules in
    let still = still_fault wrote.answer wrote.sent wrote.ended answer o.still in
    turned x tape next c.args.self.now _ in'.writer in'.framing in'.stage in'.turn _ _ (Err Device) wrote.answer wrote.sent wrote.ended
    false we fe se ue
    (sound c.args.state.now.plan c.args.state.now.events c.trace.ensures.legal) c.requires c.in-Some-decide.ensures.next o.wire o.silent
    o.asks o.moves
    (settles_still x next c.args.self.now _ wrote.sent wrote.ended (delta_of text wrote.answer) still
    (no_delta_fault wrote.answer text answer) fe se te)
    (none_still wrote.sent wrote.ended still) (λ no. inl (refl, answer))

pub returns-in-Some-Wait-clause-turn : goal.returns-in-Some-Wait-clause-turn
returns-in-Some-Wait-clause-turn g c =
    let x = shows c.args.state.now in
    let tape = c.args.tape.now in
    let wrote = c.write-wrote.result in
    let next = c.in-Some-decide.next in
    let in' = c.self.inside in
    let text = offered in'.writer tape next in
    let o = c.write-wrote.ensures in
    let we = ap (λ (h : Hop). h.writer) c.self.view_is in
    let fe = ap (λ (h : Hop). h.framing) c.self.view_is in
    let se = ap (λ (h : Hop). h.stage) c.self.view_is in
    let ue = ap (λ (h : Hop). h.turn) c.self.view_is in
    let te = ap (λ (h : Hop). h.touched) c.self.view_is in
    let answer : wrote.answer ≡ Some put.Wait = search rules in
    let still = still_wait wrote.answer wrote.sent wrote.ended answer o.still in
    turned_drop_text x tape c.args.self.now _ c.drop_text.new.self _ _ (Ok c.turn_of.result) c.drop_text.ensures.still
    (turned x tape next c.args.self.now _ in'.writer in'.framing in'.stage in'.turn _ _ (Ok c.turn_of.result) wrote.answer wrote.sent
    wrote.ended false we fe se ue
    (sound c.args.state.now.plan c.args.state.now.events c.trace.ensures.legal) c.requires c.in-Some-decide.ensures.next o.wire o.silent
    o.asks o.moves
    (settles_still x next c.args.self.now _ wrote.sent wrote.ended (delta_of text wrote.answer) still
    (no_delta_wait wrote.answer text answer) fe se te)
    (c.turn_of.ensures.events ∙ none_still wrote.sent wrote.ended still)
    (λ no. fits_wait x _ wrote.answer c.turn_of.result answer c.turn_of.ensures.events (λ h. c.turn_of.ensures.goes h refl)))

pub returns-in-Some-Took-clause-turn : goal.returns-in-Some-Took-clause-turn
returns-in-Some-Took-clause-turn g c =
    let x = shows c.args.state.now in
    let tape = c.args.tape.now in
    let wrote = c.write-wrote.result in
    let next = c.in-Some-decide.next in
    let in' = c.self.inside in
    let text = offered in'.writer tape next in
    let o = c.write-wrote.ensures in
    let turn = c.turn_of-in-Some-Took in
    let done = c.count_written-done.result in
    let e = c.count_written-done.ensures in
    let we = ap (λ (h : Hop). h.writer) c.self.view_is in
    let fe = ap (λ (h : Hop). h.framing) c.self.view_is in
    let se = ap (λ (h : Hop). h.stage) c.self.view_is in
    let ue = ap (λ (h : Hop). h.turn) c.self.view_is in
    let answer : wrote.answer ≡ Some (put.Took c.in-Some-Took.field-0-0) = search rules in
    turned_drop_text x tape c.args.self.now c.count_written-done.new.self c.drop_text-in-Some-Took.new.self _ _ (Ok turn.result)
    c.drop_text-in-Some-Took.ensures.still
    (turned x tape next c.args.self.now c.count_written-done.new.self in'.writer in'.framing in'.stage in'.turn _ _ (Ok turn.result)
    wrote.answer wrote.sent wrote.ended done we fe se ue
    (sound c.args.state.now.plan c.args.state.now.events c.trace.ensures.legal) c.requires c.in-Some-decide.ensures.next o.wire o.silent
    o.asks
    (subst (λ (v : Writer). Moves tape next in'.writer wrote.sent wrote.ended (delta_of text wrote.answer) v)
    (sym (ap (λ (h : Hop). h.writer) e.stage)) o.moves)
    (settles_by x next c.args.self.now c.count_written-done.new.self c.write-wrote.new.self in'.framing in'.stage true in'.fault in'.turn
    wrote.sent wrote.sent wrote.ended done c.sendable-may.result.done (delta_of text wrote.answer)
    e.stage fe se (λ u. cc) (λ u. inr (took_some text wrote.answer c.in-Some-Took.field-0-0 answer o.wire.fits)) e.done
    c.sendable-may.ensures.done.0 (λ z. z))
    turn.ensures.events (λ no. fits_took x c.count_written-done.new.self wrote.answer c.in-Some-Took.field-0-0 turn.result answer
    (λ h. (turn.ensures.waits h).1)))

pub returns-in-None-answer-clause-turn : goal.returns-in-None-answer-clause-turn
returns-in-None-answer-clause-turn g c =
    let x = shows c.args.state.now in
    let tape = c.args.tape.now in
    let wrote = c.write-wrote.result in
    let next = c.in-Some-decide.next in
    let in' = c.self.inside in
    let text = offered in'.writer tape next in
    let o = c.write-wrote.ensures in
    let turn = c.turn_of-in-None-answer in
    let settle = c.count_written-done-in-None-answer in
    let done = settle.result in
    let e = settle.ensures in
    let we = ap (λ (h : Hop). h.writer) c.self.view_is in
    let fe = ap (λ (h : Hop). h.framing) c.self.view_is in
    let se = ap (λ (h : Hop). h.stage) c.self.view_is in
    let ue = ap (λ (h : Hop). h.turn) c.self.view_is in
    let te = ap (λ (h : Hop). h.touched) c.self.view_is in
    let answer : wrote.answer ≡ None = c.in-None-answer.is in
    let idle = o.idle answer in
    let s = sound c.args.state.now.plan c.args.state.now.events c.trace.ensures.legal in
    let may = c.sendable-may.ensures.done in
    turned_drop_text x tape c.args.self.now settle.new.self c.drop_text-in-None-answer.new.self _ _ (Ok turn.result)
    c.drop_text-in-None-answer.ensures.still
    (turned x tape next c.args.self.now settle.new.self in'.writer in'.framing in'.stage in'.turn _ _ (Ok turn.result) wrote.answer
    wrote.sent wrote.ended done we fe se ue
    s c.requires c.in-Some-decide.ensures.next o.wire o.silent o.asks
    (subst (λ (v : Writer). Moves tape next in'.writer wrote.sent wrote.ended (delta_of text wrote.answer) v)
    (sym (ap (λ (h : Hop). h.writer) e.stage)) o.moves)
    (settles_by x next c.args.self.now settle.new.self c.write-wrote.new.self in'.framing in'.stage in'.touched in'.fault in'.turn
    wrote.sent 0 wrote.ended done c.sendable-may.result.done (delta_of text wrote.answer)
    e.stage fe se (λ u. (sym te ∙ u, no_delta_none wrote.answer text answer, idle.none_sent)) (λ u. inl (sym te ∙ u)) e.done may.0
    (λ z. idle.none_sent))
    (turn.ensures.events ∙ idle_events next in'.writer wrote.sent wrote.ended done idle)
    (λ no. fits_none x c.args.self.now settle.new.self next wrote.answer wrote.sent wrote.ended done turn.result answer s
    (decides_at x c.args.self.now in'.writer in'.framing in'.stage in'.turn next we fe se ue c.in-Some-decide.ensures.next)
    (subst (λ (v : Writer). IsIdle v next wrote.sent wrote.ended) we idle) turn.ensures.events
    (λ d. e.ended d (o.out answer)) (λ d w still_open a. e.may d (o.out answer) (ap is_whole se ∙ w) refl (may.1 (still_open, a)))
    (λ h. (turn.ensures.waits h).0) (λ h. turn.ensures.goes h refl)
    (ap (λ (h : Hop). waiting h.writer) e.stage ∙ o.out answer) (ap (λ (h : Hop). h.stage) e.stage
    ∙ ap (λ (st : HopStage). stage_then st wrote.ended) se)))
