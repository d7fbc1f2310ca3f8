-- Room was made, or not asked for.
use Rattle.event_loop.proofs.Turning.{did_is, did_start}
use Rattle.event_loop.proofs.looping.EventLoop.crowd_out.Goals as goal
use Rattle.event_loop.proofs.looping.EventLoop.crowd_out.Goals.{else-take_crowded-via-then-take_crowded+else-make_room}
use Rattle.event_loop.proofs.looping.EventLoop.crowd_out.Goals.{else-take_crowded-via-else-take_crowded}

pub returns-else-take_crowded : goal.returns-else-take_crowded
returns-else-take_crowded g c =
    elim c.else-take_crowded.branch [
      | else-take_crowded-via-then-take_crowded+else-make_room w ↦
          rw w.self-is (did_is g.K.Work c.args.self.now w.make_room.new.self _ w.make_room.ensures tt)
      | else-take_crowded-via-else-take_crowded w ↦ rw w.self-is (did_start g.K.Work c.args.self.now tt)
    ]
