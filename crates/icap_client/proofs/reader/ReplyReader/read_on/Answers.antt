-- Bytes of the adapted body, and its end, are heard if their events may come, and else refused as untimely.
use Rattle.std.proofs.Common.{ℕ, List, take, ap, sym, subst, refl, arith}
use Rattle.trace_core.specs.declared.history.Event.{Event}
use Rattle.trace_core.specs.History.{shows}
use Rattle.icap_client.specs.Events.{ad_sum, adapted_events}
use Rattle.icap_client.specs.Heard.{Reader, in_stage}
use Rattle.icap_client.specs.Hearing.{ReaderHears}
use Rattle.icap_client.proofs.Steps.{untimely_body, hears_on, sum_is}
use Rattle.icap_client.proofs.reader.ReplyReader.read_on.Goals as goal
use Rattle.icap_client.proofs.reader.ReplyReader.read_on.Goals.{then-copied, else-copied}

pub returns-then-not-may_all-clause-refuses : goal.returns-then-not-may_all-clause-refuses
returns-then-not-may_all-clause-refuses c =
    untimely_body (shows c.args.state.now) c.args.chunks c.read_body.new.chunks c.args.raw.now c.read_body.new.out c.in-Ok.copied.used
    c.in-Ok.copied.count c.in-Ok.copied.ended
    c.in-Ok.ensures.reads (omega (arith, c.in-Ok.ensures.within.1, c.read_body.auto.out)) c.in-Ok.ensures.ended
    (c.may_all.ensures.may_not c.if-not-may_all.true)

pub returns-after-copied-clause-hears : goal.returns-after-copied-clause-hears
returns-after-copied-clause-hears c =
    let heard = hears_on (shows c.args.state.now) c.args.self.now (in_stage c.args.self.now c.if-copied.self) c.args.chunks
    c.read_body.new.chunks c.args.raw.now c.read_body.new.out
    c.in-Ok.copied.used c.in-Ok.copied.count c.in-Ok.copied.ended c.if-copied.self refl
    (λ e. elim c.if-copied.branch [ then-copied w ↦ w.self-is | else-copied w ↦ cc (e, w.if-copied.false) ])
    (λ e. elim c.if-copied.branch [ then-copied w ↦ cc (e, w.if-copied.true) | else-copied w ↦ w.self-is ])
    c.requires c.in-Ok.ensures.reads (omega (arith, c.in-Ok.ensures.within.1, c.read_body.auto.out)) c.in-Ok.ensures.ended
    c.in-Ok.ensures.no_fault (c.may_all.ensures.may c.if-not-may_all.false) (c.may_all.ensures.heard c.if-not-may_all.false) in
    subst (λ (r : Reader). ReaderHears (shows c.args.state.now) c.args.self.now r c.adapted_events.result.items
    (take c.in-Ok.copied.used c.args.raw.now) (take (ad_sum c.adapted_events.result.items) c.read_body.new.out))
    (sym (ap (λ (r : Reader). in_stage r c.if-copied.self) c.self.view_is))
    (subst (λ (es : List Event). ReaderHears (shows c.args.state.now) c.args.self.now (in_stage c.args.self.now c.if-copied.self) es
    (take c.in-Ok.copied.used c.args.raw.now) (take (ad_sum es) c.read_body.new.out))
    (sym c.adapted_events.ensures)
    (subst (λ (k : ℕ). ReaderHears (shows c.args.state.now) c.args.self.now (in_stage c.args.self.now c.if-copied.self)
    (adapted_events c.in-Ok.copied.count c.in-Ok.copied.ended) (take c.in-Ok.copied.used c.args.raw.now) (take k c.read_body.new.out))
    (sym (sum_is c.in-Ok.copied.count c.in-Ok.copied.ended)) heard))
