-- One event after another is noted.
use Rattle.std.proofs.Common.{◌≡◌, ℕ, ◌<◌, get_or, length, ap, ◌∙◌, subst}
use Rattle.event_loop.specs.declared.event.Event.{Event}
use Rattle.event_loop.proofs.Turning.{did_start, did_then, did_same}
use Rattle.event_loop.proofs.Serving.{serve_step, served_none, wake_step, notes_then}
use Rattle.event_loop.proofs.looping.EventLoop.serve_seen.Goals as goal
use Rattle.event_loop.proofs.looping.EventLoop.serve_seen.Goals.{then-event, else-event}

pub loop-at-preserved : goal.loop-at-preserved
loop-at-preserved g c =
    let reports = c.args.self.now.reports in
    let xs = reports.seen.items in
    let same = c.loop-at.invariant.does.reports in
    let less : c.loop-at.at < length xs = subst (λ (n : ℕ). c.loop-at.at < n) (c.count-at-end.ensures) c.loop-at-test.true in
    let is : (d : Event) → c.get-event.result ≡ get_or xs c.loop-at.at d =
    λ d. c.get-event.ensures d ∙ ap (λ r. get_or r.seen.items c.loop-at.at d) same in
    elim c.if-event.branch [
      | then-event w ↦
          rw (w.self-is, w.woken-is)
          (did_same g.K.Work c.args.self.now c.loop-at.self c.loop-at.invariant
          (λ deeds p. (
            wake_step xs c.loop-at.at c.get-event.result c.loop-at.woken c.loop-at.self.ready less is w.if-event.true deeds p.0,
            p.1,
          )))
      | else-event w ↦
          rw (w.self-is, w.woken-is)
          (did_then g.K.Work c.args.self.now c.loop-at.self w.serve.new.self c.loop-at.invariant w.serve.ensures
          (λ first second f d tied p q. (
            serve_step g.K.Work c.loop-at.self w.serve.new.self xs c.loop-at.at c.get-event.result c.loop-at.woken less is w.if-event.false
                first second d tied p.0 q.0,
            notes_then first second p.1 q.1,
          )))
    ]

pub loop-at-init : goal.loop-at-init
loop-at-init g c =
    let reports = c.args.self.now.reports in
    did_start g.K.Work c.args.self.now (served_none reports.seen.items c.args.self.now.ready, tt)
