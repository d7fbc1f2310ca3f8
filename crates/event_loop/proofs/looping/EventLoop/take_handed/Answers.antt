-- The users were taken in, or none was asked for.
use Rattle.std.proofs.Common.{refl}
use Rattle.event_loop.proofs.Turning.{did_behind, did_start, does_nothing}
use Rattle.event_loop.proofs.looping.EventLoop.take_handed.Goals as goal

pub returns-in_ok-take_in : goal.returns-in_ok-take_in
returns-in_ok-take_in g c = did_behind g.K.Work c.args.self.now _ c.take_in.new.self
    (does_nothing g.K.Work c.args.self.now _ refl refl refl) c.take_in.ensures

pub returns-else-self : goal.returns-else-self
returns-else-self g c = did_start g.K.Work c.args.self.now tt
