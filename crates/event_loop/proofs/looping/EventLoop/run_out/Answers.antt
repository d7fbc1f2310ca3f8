-- The turns, the end of all exchanges, and their leave.
use Rattle.event_loop.specs.Deeds.Deed.{Halted}
use Rattle.event_loop.proofs.Turning.{works_one}
use Rattle.event_loop.proofs.Running.{ran_out}
use Rattle.event_loop.proofs.looping.EventLoop.run_out.Goals as goal

pub returns : goal.returns
returns g c tied =
    ran_out g.K.Work c.args.self.now.work c.run.new.self.work _ c.take_leave.new.self.work (c.run.ensures tied)
    (works_one g.K.Work c.run.new.self.work _ Halted c.halt.ensures.past c.halt.ensures.kept) c.take_leave.ensures
