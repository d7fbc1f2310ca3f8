-- Those of the administrator were answered, and then those that read the counters.
use Rattle.std.proofs.Common.{refl}
use Rattle.event_loop.proofs.Turning.{did_answer, answers_then}
use Rattle.event_loop.proofs.looping.EventLoop.hear.Goals as goal

pub returns : goal.returns
returns g c = did_answer g.K.Work c.args.self.now _ (answers_then g.K.Work _ _ _ c.serve.ensures c.serve-2.ensures) refl refl
