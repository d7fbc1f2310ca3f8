-- After a turn at the head, what was read of the message is still what was kept before and what its wire gave since.
use Rattle.std.proofs.Common.{ap}
use Rattle.proxy_rules.specs.Arrivals.{Arrival}
use Rattle.proxy_rules.proofs.ArrivalLemmas.{head_turned, came_turned}
use Rattle.proxy_rules.proofs.incoming.Incoming.head_turn.Goals as goal

pub invariant_of-self : goal.invariant_of-self
invariant_of-self g c =
    head_turned c.self.inside.side c.head_turn.new.self c.self.inside.user (g.W.Wire.past c.args.wire.now)
    (g.W.Wire.past c.head_turn.new.wire) c.head_turn.result c.self.invariant
    c.head_turn.ensures.turn c.head_turn.ensures.read c.head_turn.ensures.faulted c.head_turn.ensures.asks

pub returns-clause-came : goal.returns-clause-came
returns-clause-came g c = λ first ahead since beside came.
    came_turned g.W.Wire first ahead since beside c.self.inside.side c.args.self.now.side c.head_turn.new.self c.args.wire.now
    c.head_turn.new.wire c.head_turn.result (ap (λ (m : Arrival). m.side) c.self.view_is)
    c.head_turn.ensures.turn c.head_turn.ensures.read c.head_turn.ensures.faulted c.head_turn.ensures.idle came
