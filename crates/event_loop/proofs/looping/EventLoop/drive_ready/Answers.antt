-- Each is driven in the first pass, and what further ones do comes after that.
use Rattle.event_loop.proofs.Turning.{did_then, did_and, did_fail, driven_more}
use Rattle.event_loop.proofs.looping.EventLoop.drive_ready.Goals as goal

pub loop-pass-preserved : goal.loop-pass-preserved
loop-pass-preserved g c =
    did_then g.K.Work c.args.self.now c.loop-pass.self c.drive_paused.new.self c.loop-pass.invariant c.drive_paused.ensures
    (λ first second f d tied p q key was. driven_more key second (p key was))

pub returns-in_err-drive_paused : goal.returns-in_err-drive_paused
returns-in_err-drive_paused g c =
    did_fail g.K.Work c.args.self.now c.drive_paused.new.self _ c.from_residual-in_err-drive_paused.result
    c.from_residual-in_err-drive_paused.ensures.0
    (did_and g.K.Work c.args.self.now c.loop-pass.self c.drive_paused.new.self c.loop-pass.invariant c.drive_paused.ensures)
