-- What the replies' side hears or refuses, the whole side does, with its mark of an answered preview.
use Rattle.std.proofs.Common.{◌≡◌, ◌∙◌, Bool, List, ap, sym, subst, length, Result, Ok, Err, rules}
use Rattle.trace_core.specs.declared.history.Event.{Event}
use Rattle.trace_core.specs.declared.history.Seen.{Seen}
use Rattle.trace_core.specs.History.{shows}
use Rattle.adapt_sides.specs.declared.turn.Turn.{Turn}
use Rattle.adapt_sides.specs.declared.fault.ClientFault.{ClientFault}
use Rattle.icap_client.specs.Events.{after_all}
use Rattle.icap_client.specs.HeadFront.{HasToWait}
use Rattle.icap_client.specs.Reading.{ReadSide, SideHeard, NothingToRead}
use Rattle.icap_client.specs.Turns.{Service, Hears, is_answered, is_flushed}
use Rattle.icap_client.proofs.DropText.{flushed_still}
use Rattle.icap_client.proofs.Both.{hears_all}
use Rattle.icap_client.proofs.Marked.{hears_marked}
use Rattle.icap_client.proofs.service.ServiceSide.read_turn.Goals as goal

pub returns-in-Ok-clause-hears : goal.returns-in-Ok-clause-hears
returns-in-Ok-clause-hears g c =
    let y = shows c.args.state.now in
    let room = length c.args.out.now in
    let before = c.args.self.now in
    let new = c.drop_text.new.self in
    let side = c.read_turn.new.self in
    let P = g.W.Wire.past c.args.wire.now in
    let Q = g.W.Wire.past c.read_turn.new.wire in
    let result : Result Turn ClientFault = Ok c.in-Ok.turn in
    let slice : c.as_slice.result.now ≡ c.in-Ok.turn.events.items = search rules in
    let mark : c.is_answered-self-inside.result ≡ is_answered (after_all y c.in-Ok.turn.events.items) =
    c.is_answered-self-inside.ensures
    ∙ (ap (λ (s : Seen). is_answered (after_all s c.as_slice.result.now)) c.seen.ensures
    ∙ ap (λ (es : List Event). is_answered (after_all y es)) slice) in
    let flushed : c.flushed-all_sent.result ≡ is_flushed new.writer =
    c.flushed-all_sent.ensures ∙ sym (flushed_still c.self.inside.writer new.writer c.drop_text.ensures.writer) in
    hears_marked y before new before.replies.fault new.replies.fault
    (NothingToRead y (is_flushed new.writer) room new.replies.reader.stage) (HasToWait new.replies.reader.stage new.replies.raw room) P
    Q c.read_turn.new.out result (λ e. c.drop_text.ensures.answered ∙ mark)
    (subst (λ (s : ReadSide). Hears y (λ x adapted read. SideHeard x adapted read before.replies)
    (λ x adapted read. SideHeard x adapted read s) before.replies.fault s.fault
    (NothingToRead y (is_flushed new.writer) room s.reader.stage) (HasToWait s.reader.stage s.raw room)
    P Q c.read_turn.new.out result) (sym c.drop_text.ensures.replies)
    (subst (λ (b : Bool). Hears y (λ x adapted read. SideHeard x adapted read before.replies)
    (λ x adapted read. SideHeard x adapted read side) before.replies.fault side.fault
    (NothingToRead y b room side.reader.stage) (HasToWait side.reader.stage side.raw room)
    P Q c.read_turn.new.out result) flushed
    (subst (λ (s : Service). Hears y (λ x adapted read. SideHeard x adapted read s.replies)
    (λ x adapted read. SideHeard x adapted read side) s.replies.fault side.fault
    (NothingToRead y c.flushed-all_sent.result room side.reader.stage) (HasToWait side.reader.stage side.raw room)
    P Q c.read_turn.new.out result) c.self.view_is
    (hears_all y c.flushed-all_sent.result room c.self.inside.replies side P Q c.read_turn.new.out result
    (sym c.read_turn.auto.out) c.in-Ok.ensures.turn c.in-Ok.ensures.sound c.in-Ok.ensures.stays c.in-Ok.ensures.faulted
    c.in-Ok.ensures.untouched))))

pub returns-in-Err-clause-hears : goal.returns-in-Err-clause-hears
returns-in-Err-clause-hears g c =
    let y = shows c.args.state.now in
    let room = length c.args.out.now in
    let before = c.args.self.now in
    let new = c.read_turn.new.self in
    let result : Result Turn ClientFault = Err c.in-Err.fault in
    hears_marked y before _ before.replies.fault new.fault
    (NothingToRead y (is_flushed c.self.inside.writer) room new.reader.stage) (HasToWait new.reader.stage new.raw room)
    (g.W.Wire.past c.args.wire.now) (g.W.Wire.past c.read_turn.new.wire) c.read_turn.new.out result
    (λ e. ap (λ (s : Service). s.answered) c.self.view_is ∙ e)
    (subst (λ (b : Bool). Hears y (λ x adapted read. SideHeard x adapted read before.replies)
    (λ x adapted read. SideHeard x adapted read new) before.replies.fault new.fault (NothingToRead y b room new.reader.stage)
    (HasToWait new.reader.stage new.raw room)
    (g.W.Wire.past c.args.wire.now) (g.W.Wire.past c.read_turn.new.wire) c.read_turn.new.out result) c.flushed-all_sent.ensures
    (subst (λ (s : Service). Hears y (λ x adapted read. SideHeard x adapted read s.replies) (λ x adapted read. SideHeard x adapted read new)
    s.replies.fault new.fault (NothingToRead y c.flushed-all_sent.result room new.reader.stage)
    (HasToWait new.reader.stage new.raw room)
    (g.W.Wire.past c.args.wire.now) (g.W.Wire.past c.read_turn.new.wire) c.read_turn.new.out result) c.self.view_is
    (hears_all y c.flushed-all_sent.result room c.self.inside.replies new (g.W.Wire.past c.args.wire.now)
    (g.W.Wire.past c.read_turn.new.wire) c.read_turn.new.out result
    (sym c.read_turn.auto.out) c.in-Err.ensures.turn c.in-Err.ensures.sound c.in-Err.ensures.stays c.in-Err.ensures.faulted
    c.in-Err.ensures.untouched)))
