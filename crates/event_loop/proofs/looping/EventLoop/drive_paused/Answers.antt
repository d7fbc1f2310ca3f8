-- One after another is driven on.
use Rattle.std.proofs.Common.{refl}
use Rattle.event_loop.proofs.Turning.{did_start, did_and, did_more, did_behind, did_taken}
use Rattle.event_loop.proofs.looping.EventLoop.drive_paused.Goals as goal
use Rattle.event_loop.proofs.looping.EventLoop.drive_paused.Goals.{then-has+in_ok-read_clock, else-has}

pub returns-then-is_empty : goal.returns-then-is_empty
returns-then-is_empty g c = did_start g.K.Work c.args.self.now tt

pub loop-key-init : goal.loop-key-init
loop-key-init g c = did_start g.K.Work c.args.self.now tt

pub loop-key-preserved : goal.loop-key-preserved
loop-key-preserved g c =
    elim c.if-has.branch [
      | then-has+in_ok-read_clock w ↦
          rw w.self-is
          (did_and g.K.Work c.args.self.now c.loop-key.self w.drive_now.new.self c.loop-key.invariant
          (did_behind g.K.Work c.loop-key.self w.read_clock.new.self w.drive_now.new.self w.read_clock.ensures
          (did_taken g.K.Work w.read_clock.new.self _ w.drive_now.new.self c.loop-key.key refl refl w.take.ensures.count
          w.take.ensures.others w.drive_now.ensures)))
      | else-has w ↦ rw w.self-is c.loop-key.invariant
    ]

pub returns-in_err-read_clock : goal.returns-in_err-read_clock
returns-in_err-read_clock g c =
    did_more g.K.Work c.args.self.now c.loop-key.self c.read_clock.new.self c.loop-key.invariant c.read_clock.ensures
