-- The service's side writes, and reads unless the write broke the connection or closed the transaction; it waits where both wait.
use Rattle.std.proofs.Common.{inl, inr, refl, sym, ap, ◌∙◌}
use Rattle.std.proofs.lemmas.Bool.{false≢true}
use Rattle.adapt_hold.specs.Holding.{Holding, shows}
use Rattle.adapt_turn.specs.Reports.{lending}
use Rattle.adapt_turn.proofs.ServiceEnds.{written_passes, both_passes}
use Rattle.adapt_turn.proofs.Reasons.{reported_still}
use Rattle.adapt_turn.proofs.pass.service.held_pass.Goals as goal

pub returns-then-sent-clause-passes : goal.returns-then-sent-clause-passes
returns-then-sent-clause-passes g c =
    written_passes g.V.Service g.W.Wire c.args.reused (lending c.args.hold.now c.args.service.now c.args.wire.now)
    (lending c.send-sent.new.hold c.send-sent.new.service c.send-sent.new.wire) c.send-sent.result
    c.state-state.ensures.tied c.requires.running (λ e. false≢true (sym (c.send-sent.ensures.whole e) ∙ c.if-sent.true))
    (record {
      reports = c.send-sent.ensures.reports;
      reason = c.send-sent.ensures.reason;
      heard = c.send-sent.ensures.heard;
      head = c.send-sent.ensures.head;
      response = c.send-sent.ensures.response;
      whole = c.send-sent.ensures.whole;
      unbroken =
          c.send-sent.ensures.unbroken;
      breaks = c.send-sent.ensures.breaks;
    })

pub returns-then-is_closed-clause-passes : goal.returns-then-is_closed-clause-passes
returns-then-is_closed-clause-passes g c =
    written_passes g.V.Service g.W.Wire c.args.reused (lending c.args.hold.now c.args.service.now c.args.wire.now)
    (lending c.send-sent.new.hold c.send-sent.new.service c.send-sent.new.wire) c.send-sent.result
    c.state-state.ensures.tied c.requires.running
    (λ e. false≢true (sym c.requires.running ∙ ap (λ (h : Holding). (shows h.history).closed)
    (sym (reported_still c.send-sent.ensures.reports.reports e)) ∙ sym c.is_closed.ensures.closed ∙ c.if-is_closed.true))
    (record {
      reports = c.send-sent.ensures.reports;
      reason = c.send-sent.ensures.reason;
      heard = c.send-sent.ensures.heard;
      head = c.send-sent.ensures.head;
      response = c.send-sent.ensures.response;
      whole = c.send-sent.ensures.whole;
      unbroken =
          c.send-sent.ensures.unbroken;
      breaks = c.send-sent.ensures.breaks;
    })

pub returns-then-sent-2-clause-passes : goal.returns-then-sent-2-clause-passes
returns-then-sent-2-clause-passes g c =
    both_passes g.V.Service g.W.Wire c.args.reused (lending c.args.hold.now c.args.service.now c.args.wire.now)
    (lending c.send-sent.new.hold c.send-sent.new.service c.send-sent.new.wire)
    (lending c.hear-heard.new.hold c.hear-heard.new.service c.hear-heard.new.wire) c.send-sent.result c.hear-heard.result _
    c.state-state.ensures.tied c.is_closed.ensures.tied c.requires.running (sym c.is_closed.ensures.closed ∙ c.if-is_closed.false)
    c.if-sent.false
    (λ e. (c.if-sent-2.true, e)) (λ e. inr (c.if-sent-2.true, e)) refl refl
    (record {
      reports = c.send-sent.ensures.reports;
      reason = c.send-sent.ensures.reason;
      heard = c.send-sent.ensures.heard;
      head = c.send-sent.ensures.head;
      response = c.send-sent.ensures.response;
      whole = c.send-sent.ensures.whole;
      unbroken =
          c.send-sent.ensures.unbroken;
      breaks = c.send-sent.ensures.breaks;
    })
    (record {
      reports = c.hear-heard.ensures.reports;
      reason = c.hear-heard.ensures.reason;
      sent = c.hear-heard.ensures.sent;
      rests = c.hear-heard.ensures.rests;
      head = c.hear-heard.ensures.head;
      response = c.hear-heard.ensures.response;
      unbroken =
          c.hear-heard.ensures.unbroken;
      breaks = c.hear-heard.ensures.breaks;
    })

pub returns-else-sent-2-clause-passes : goal.returns-else-sent-2-clause-passes
returns-else-sent-2-clause-passes g c =
    both_passes g.V.Service g.W.Wire c.args.reused (lending c.args.hold.now c.args.service.now c.args.wire.now)
    (lending c.send-sent.new.hold c.send-sent.new.service c.send-sent.new.wire)
    (lending c.hear-heard.new.hold c.hear-heard.new.service c.hear-heard.new.wire) c.send-sent.result c.hear-heard.result _
    c.state-state.ensures.tied c.is_closed.ensures.tied c.requires.running (sym c.is_closed.ensures.closed ∙ c.if-is_closed.false)
    c.if-sent.false
    (λ e. absurd (false≢true (sym c.if-sent-2.false ∙ e))) (λ e. inl e) refl refl
    (record {
      reports = c.send-sent.ensures.reports;
      reason = c.send-sent.ensures.reason;
      heard = c.send-sent.ensures.heard;
      head = c.send-sent.ensures.head;
      response = c.send-sent.ensures.response;
      whole = c.send-sent.ensures.whole;
      unbroken =
          c.send-sent.ensures.unbroken;
      breaks = c.send-sent.ensures.breaks;
    })
    (record {
      reports = c.hear-heard.ensures.reports;
      reason = c.hear-heard.ensures.reason;
      sent = c.hear-heard.ensures.sent;
      rests = c.hear-heard.ensures.rests;
      head = c.hear-heard.ensures.head;
      response = c.hear-heard.ensures.response;
      unbroken =
          c.hear-heard.ensures.unbroken;
      breaks = c.hear-heard.ensures.breaks;
    })
