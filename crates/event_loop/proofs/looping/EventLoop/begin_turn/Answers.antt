-- That the poll was heard is the one deed; the read of the clock adds none.
use Rattle.std.proofs.Common.{[], ◌∷◌}
use Rattle.event_loop.specs.Deeds.Deed.{Heard}
use Rattle.event_loop.proofs.Turning.{does_then}
use Rattle.event_loop.proofs.looping.EventLoop.begin_turn.Goals as goal

pub returns : goal.returns
returns g c = does_then g.K.Work c.args.self.now c.hear_poll.new.self c.read_clock.new.self (Heard _ ∷ []) [] c.hear_poll.ensures
    c.read_clock.ensures
