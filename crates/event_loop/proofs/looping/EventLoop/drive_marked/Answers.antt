-- One marked exchange after another is driven.
use Rattle.std.proofs.Common.{refl, sym, ◌∙◌}
use Rattle.event_loop.proofs.Turning.{did_start, ready_start, ready_driven, ready_still}
use Rattle.event_loop.proofs.looping.EventLoop.drive_marked.Goals as goal
use Rattle.event_loop.proofs.looping.EventLoop.drive_marked.Goals.{then-has+in_ok-read_clock_after, else-has}

pub loop-key-init : goal.loop-key-init
loop-key-init g c = did_start g.K.Work c.args.self.now (ready_start c.args.self.now.ready c.low-key.result c.low-key.ensures)

pub loop-key-preserved : goal.loop-key-preserved
loop-key-preserved g c =
    elim c.if-has.branch [
      | then-has+in_ok-read_clock_after w ↦
          rw w.self-is
          (ready_driven g.K.Work c.args.self.now c.loop-key.self w.read_clock_after.new.self _ w.drive_now.new.self c.loop-key.key
          c.loop-key.invariant
          w.read_clock_after.ensures refl refl w.take.ensures.count w.take.ensures.others w.drive_now.ensures)
      | else-has w ↦
          rw w.self-is
          (ready_still g.K.Work c.args.self.now c.loop-key.self c.loop-key.key c.loop-key.invariant (sym c.has.ensures ∙ w.if-has.false))
    ]
