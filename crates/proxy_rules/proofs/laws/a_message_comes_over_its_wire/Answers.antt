-- A message begins with the bytes kept before it, and what its wire takes beside is no part of it.
use Rattle.proxy_rules.proofs.ArrivalLemmas.{came_first, came_beside}
use Rattle.proxy_rules.proofs.laws.a_message_comes_over_its_wire.Goals as goal

pub returns-clause-begins : goal.returns-clause-begins
returns-clause-begins g c = λ ahead h. came_first g.W.Wire ahead c.args.message.now.side c.args.wire.now h

pub returns-clause-beside : goal.returns-clause-beside
returns-clause-beside g c = λ first old ahead since beside more grown came.
    came_beside g.W.Wire first ahead since beside more c.args.message.now.side old c.args.wire.now grown came
