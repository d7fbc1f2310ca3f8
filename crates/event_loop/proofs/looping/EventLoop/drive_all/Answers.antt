-- One exchange after another gets a turn.
use Rattle.std.proofs.Common.{arith}
use Rattle.event_loop.proofs.Turning.{did_start, did_then, did_and, did_fail, gets_below}
use Rattle.event_loop.proofs.looping.EventLoop.drive_all.Goals as goal

pub loop-key-init : goal.loop-key-init
loop-key-init g c = did_start g.K.Work c.args.self.now (λ key less. absurd (omega (arith, less)))

pub loop-key-preserved : goal.loop-key-preserved
loop-key-preserved g c =
    did_then g.K.Work c.args.self.now c.loop-key.self c.drive.new.self c.loop-key.invariant c.in_ok-drive.ensures
    (λ first second f d tied p q. gets_below g.K.Work c.loop-key.self c.drive.new.self c.loop-key.key first second d tied p q)

pub returns-in_err-drive : goal.returns-in_err-drive
returns-in_err-drive g c =
    did_fail g.K.Work c.args.self.now c.drive.new.self _ c.from_residual.result c.from_residual.ensures.0
    (did_and g.K.Work c.args.self.now c.loop-key.self c.drive.new.self c.loop-key.invariant c.drive.ensures)
