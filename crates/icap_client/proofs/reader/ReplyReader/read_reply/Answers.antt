-- Noting a response's fields leaves what was heard; a head that is no reply is refused, and a prefix waits.
use Rattle.std.proofs.Common.{rules, take, [], ◌≡◌, None, Result, IfOk, sym, subst}
use Rattle.adapt_sides.specs.declared.fault.ClientFault.{ClientFault}
use Rattle.icap_client.specs.declared.events.FramedHead.{FramedHead}
use Rattle.trace_core.specs.History.{shows}
use Rattle.icap_head.specs.Heads.{response_parts, RefusesResponse}
use Rattle.icap_head.specs.declared.reading.HeadFault.{HeadFault}
use Rattle.icap_head.specs.declared.reading.HeadFault.TheVariants.{More}
use Rattle.icap_client.specs.Heard.{Reader, noted}
use Rattle.icap_client.specs.Hearing.{ReaderHears, PassesWithoutEvent}
use Rattle.icap_client.specs.Events.{listed}
use Rattle.icap_client.specs.Said.{says_close}
use Rattle.icap_client.specs.Refused.{SpellsNoReply}
use Rattle.icap_client.proofs.Heads.{refuses_said, stands_for, passes_none, passes_noted, hears_noted, ok_map}
use Rattle.icap_client.proofs.reader.ReplyReader.read_reply.Goals as goal
use Rattle.icap_client.proofs.reader.ReplyReader.read_reply.Goals.{in-Some, in-None}

pub returns-in-Err-reply_of-clause-refuses : goal.returns-in-Err-reply_of-clause-refuses
returns-in-Err-reply_of-clause-refuses c =
    refuses_said c.in-Err-reply_of.fault (shows c.args.state.now) c.args.self.now.point c.args.raw.now (response_parts c.in-Ok.head.value)
    c.in-Ok.head.length
    c.in-Ok.ensures.ok (subst (λ (r : Reader). SpellsNoReply c.in-Err-reply_of.fault r.point (response_parts c.in-Ok.head.value))
    c.self.view_is c.in-Err-reply_of.ensures.err)

pub returns-after-refusal-clause-passes : goal.returns-after-refusal-clause-passes
returns-after-refusal-clause-passes c =
    let P : Result FramedHead ClientFault → Type 0
    = λ r. IfOk r (λ framed. framed.event ≡ None → PassesWithoutEvent c.args.self.now c.args.self.now framed.used c.args.raw.now) in
    elim c.match-refusal.branch [
      | in-Some w ↦ subst P (sym w.result-is) tt
      | in-None w ↦
          let more : c.in-Err.fault ≡ More = w.in-None.ensures.none in
          subst P (sym w.result-is) (λ e. passes_none c.args.self.now c.args.raw.now
          (subst (λ (f : HeadFault). RefusesResponse f c.args.raw.now) more
          (stands_for c.in-Err.fault c.args.raw.now (λ m. cc) c.in-Err.ensures.err)))
    ]

pub accept-requires-clause-noted : goal.accept-requires-clause-noted
accept-requires-clause-noted c = record {
  value = response_parts c.in-Ok.head.value;
  head = search rules;
  inside = search rules;
  says = search rules;
  remarks_are = search rules;
  closes_is = search rules;
}

pub returns-in-Ok-reply_of-clause-hears : goal.returns-in-Ok-reply_of-clause-hears
returns-in-Ok-reply_of-clause-hears c =
    let x = shows c.args.state.now in
    let remarks = (response_parts c.in-Ok.head.value).fields in
    let closes = says_close (response_parts c.in-Ok.head.value).fields in
    let is : c.note.new.self ≡ noted c.args.self.now remarks closes = search rules in
    ok_map c.accept.result _ _ (λ framed h. hears_noted x c.args.self.now c.accept.new.self remarks closes (listed framed.event)
    (take framed.used c.args.raw.now) [] c.requires
    (subst (λ (r : Reader). ReaderHears x r c.accept.new.self (listed framed.event) (take framed.used c.args.raw.now) []) is h))
    c.accept.ensures.hears

pub returns-in-Ok-reply_of-clause-passes : goal.returns-in-Ok-reply_of-clause-passes
returns-in-Ok-reply_of-clause-passes c =
    let remarks = (response_parts c.in-Ok.head.value).fields in
    let closes = says_close (response_parts c.in-Ok.head.value).fields in
    let is : c.note.new.self ≡ noted c.args.self.now remarks closes = search rules in
    ok_map c.accept.result _ _ (λ framed h e. passes_noted c.args.self.now c.accept.new.self remarks closes framed.used c.args.raw.now
    (subst (λ (r : Reader). PassesWithoutEvent r c.accept.new.self framed.used c.args.raw.now) is (h e))) c.accept.ensures.passes
