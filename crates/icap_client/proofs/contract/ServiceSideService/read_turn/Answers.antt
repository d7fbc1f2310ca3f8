-- A read leaves what was sent, even where it drops the heads' text, and its first fault has its cause.
use Rattle.std.proofs.Common.{◌∙◌, Bool, length, subst, sym}
use Rattle.trace_core.specs.History.{shows}
use Rattle.icap_client.specs.Reading.{IsCause}
use Rattle.icap_client.proofs.Both.{came_cause}
use Rattle.icap_client.proofs.DropText.{sent_still, flushed_still}
use Rattle.icap_client.proofs.contract.ServiceSideService.read_turn.Goals as goal

pub returns-clause-sent : goal.returns-clause-sent
returns-clause-sent g c = λ heads came taken h. record {
  sent = sent_still heads (shows c.args.state.now) came taken c.args.self.now.writer c.read_turn.new.self.writer c.read_turn.ensures.writer
      h.sent;
  kept = λ m. c.read_turn.ensures.kept m ∙ h.kept m;
  last_stop = c.read_turn.ensures.last_stop ∙ h.last_stop;
}

pub returns-clause-reason : goal.returns-clause-reason
returns-clause-reason g c = λ none fault e.
    let x = shows c.args.state.now in
    let old = c.args.self.now in
    let new = c.read_turn.new.self in
    let t = c.read_turn.ensures.turn none in
    subst (λ (b : Bool). IsCause fault x b new.replies.reader new.replies.raw)
    (sym (flushed_still old.writer new.writer c.read_turn.ensures.writer))
    (came_cause x _ old.replies new.replies (length c.args.out.now) c.read_turn.new.out t.given c.read_turn.result t.came fault e)
