-- All are driven, and then round by round.
use Rattle.event_loop.proofs.Running.{on_does, on_did, on_then}
use Rattle.event_loop.proofs.looping.EventLoop.take_leave.Goals as goal

pub returns-in_err-drive_ready : goal.returns-in_err-drive_ready
returns-in_err-drive_ready g c =
    on_then g.K.Work c.args.self.now.work c.read_clock-in-loop.new.self.work c.drive_ready.new.self.work
    (on_then g.K.Work c.args.self.now.work c.loop.self.work c.read_clock-in-loop.new.self.work c.loop.invariant
    (on_does g.K.Work _ c.read_clock-in-loop.new.self c.read_clock-in-loop.ensures))
    (on_did g.K.Work c.read_clock-in-loop.new.self c.drive_ready.new.self c.drive_ready.ensures)

pub loop-preserved : goal.loop-preserved
loop-preserved g c =
    on_then g.K.Work c.args.self.now.work c.drive_ready.new.self.work c.drive_seen.new.self.work
    (on_then g.K.Work c.args.self.now.work c.read_clock-in-loop.new.self.work c.drive_ready.new.self.work
    (on_then g.K.Work c.args.self.now.work c.loop.self.work c.read_clock-in-loop.new.self.work c.loop.invariant
    (on_does g.K.Work _ c.read_clock-in-loop.new.self c.read_clock-in-loop.ensures))
    (on_did g.K.Work c.read_clock-in-loop.new.self c.drive_ready.new.self c.drive_ready.ensures))
    (on_did g.K.Work c.drive_ready.new.self c.drive_seen.new.self c.drive_seen.ensures)

pub returns-in_err-drive_seen : goal.returns-in_err-drive_seen
returns-in_err-drive_seen g c =
    on_then g.K.Work c.args.self.now.work c.drive_ready.new.self.work c.drive_seen.new.self.work
    (on_then g.K.Work c.args.self.now.work c.read_clock-in-loop.new.self.work c.drive_ready.new.self.work
    (on_then g.K.Work c.args.self.now.work c.loop.self.work c.read_clock-in-loop.new.self.work c.loop.invariant
    (on_does g.K.Work _ c.read_clock-in-loop.new.self c.read_clock-in-loop.ensures))
    (on_did g.K.Work c.read_clock-in-loop.new.self c.drive_ready.new.self c.drive_ready.ensures))
    (on_did g.K.Work c.drive_ready.new.self c.drive_seen.new.self c.drive_seen.ensures)
