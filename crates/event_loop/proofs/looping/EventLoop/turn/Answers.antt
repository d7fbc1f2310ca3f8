-- The parts of a turn, one after another.
use Rattle.event_loop.proofs.Turning.{did_and, did_more, did_fail}
use Rattle.event_loop.proofs.Serving.{turn_served}
use Rattle.event_loop.proofs.looping.EventLoop.turn.Goals as goal

pub returns-in_err-drain_if_asked : goal.returns-in_err-drain_if_asked
returns-in_err-drain_if_asked g c =
    did_fail g.K.Work c.args.self.now c.drain_if_asked.new.self _ c.from_residual.result c.from_residual.ensures.0
    (did_and g.K.Work c.args.self.now c.serve_seen-woken.new.self c.drain_if_asked.new.self c.serve_seen-woken.ensures
    c.drain_if_asked.ensures)

pub returns-in_err-drive_ready : goal.returns-in_err-drive_ready
returns-in_err-drive_ready g c =
    did_fail g.K.Work c.args.self.now c.drive_ready.new.self _ c.from_residual-in_err-drive_ready.result
    c.from_residual-in_err-drive_ready.ensures.0
    (did_and g.K.Work c.args.self.now c.drain_if_asked.new.self c.drive_ready.new.self
    (did_and g.K.Work c.args.self.now c.serve_seen-woken.new.self c.drain_if_asked.new.self c.serve_seen-woken.ensures
    c.drain_if_asked.ensures)
    c.drive_ready.ensures)

pub returns-in_err-wake_up : goal.returns-in_err-wake_up
returns-in_err-wake_up g c =
    did_fail g.K.Work c.args.self.now c.wake_up.new.self _ c.from_residual-in_err-wake_up.result c.from_residual-in_err-wake_up.ensures.0
    (did_and g.K.Work c.args.self.now c.crowd_out.new.self c.wake_up.new.self
    (did_and g.K.Work c.args.self.now c.hear.new.self c.crowd_out.new.self
    (did_and g.K.Work c.args.self.now c.drive_ready.new.self c.hear.new.self
    (did_and g.K.Work c.args.self.now c.drain_if_asked.new.self c.drive_ready.new.self
    (did_and g.K.Work c.args.self.now c.serve_seen-woken.new.self c.drain_if_asked.new.self c.serve_seen-woken.ensures
    c.drain_if_asked.ensures)
    c.drive_ready.ensures)
    c.hear.ensures)
    c.crowd_out.ensures)
    c.wake_up.ensures)

pub returns-in_err-take_handed : goal.returns-in_err-take_handed
returns-in_err-take_handed g c =
    did_fail g.K.Work c.args.self.now c.take_handed.new.self _ c.from_residual-in_err-take_handed.result
    c.from_residual-in_err-take_handed.ensures.0
    (did_and g.K.Work c.args.self.now c.ask_ports.new.self c.take_handed.new.self
    (did_more g.K.Work c.args.self.now c.wake_up.new.self c.ask_ports.new.self
    (did_and g.K.Work c.args.self.now c.crowd_out.new.self c.wake_up.new.self
    (did_and g.K.Work c.args.self.now c.hear.new.self c.crowd_out.new.self
    (did_and g.K.Work c.args.self.now c.drive_ready.new.self c.hear.new.self
    (did_and g.K.Work c.args.self.now c.drain_if_asked.new.self c.drive_ready.new.self
    (did_and g.K.Work c.args.self.now c.serve_seen-woken.new.self c.drain_if_asked.new.self c.serve_seen-woken.ensures
    c.drain_if_asked.ensures)
    c.drive_ready.ensures)
    c.hear.ensures)
    c.crowd_out.ensures)
    c.wake_up.ensures)
    c.ask_ports.ensures)
    c.take_handed.ensures)

pub returns : goal.returns
returns g c =
    turn_served g.K.Work c.args.self.now c.serve_seen-woken.new.self c.drain_if_asked.new.self c.drive_ready.new.self c.hear.new.self
    c.crowd_out.new.self c.wake_up.new.self c.ask_ports.new.self _
    c.serve_seen-woken.result c.serve_seen-woken.ensures c.in_ok-drain_if_asked.ensures c.in_ok-drive_ready.ensures c.hear.ensures
    c.crowd_out.ensures c.in_ok-wake_up.ensures c.ask_ports.ensures c.take_handed.ensures
