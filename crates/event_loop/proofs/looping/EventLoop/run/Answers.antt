-- One turn after another.
use Rattle.event_loop.proofs.Running.{run_over, run_turn}
use Rattle.event_loop.proofs.looping.EventLoop.run.Goals as goal

pub returns-in_err-round : goal.returns-in_err-round
returns-in_err-round g c tied = run_over g.K.Work c.args.self.now c.loop.self c.round.new.self (c.loop.invariant tied) c.round.ensures.any

pub returns-then-branch : goal.returns-then-branch
returns-then-branch g c tied = run_over g.K.Work c.args.self.now c.loop.self c.round.new.self (c.loop.invariant tied) c.round.ensures.any

pub loop-preserved : goal.loop-preserved
loop-preserved g c tied =
    run_turn g.K.Work c.args.self.now c.loop.self c.round.new.self c.end_turn.new.self (c.loop.invariant tied) tied
    (c.in_ok-round.ensures.serves c.if-branch.false) c.end_turn.ensures.works c.end_turn.ensures.ready
