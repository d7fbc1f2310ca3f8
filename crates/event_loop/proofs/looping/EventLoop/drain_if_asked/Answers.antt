-- It wasn't asked to.
use Rattle.event_loop.proofs.Turning.{did_start}
use Rattle.event_loop.proofs.looping.EventLoop.drain_if_asked.Goals as goal

pub returns-else-is_draining : goal.returns-else-is_draining
returns-else-is_draining g c = did_start g.K.Work c.args.self.now tt
