-- Nothing was taken before the message begins, and so what was taken is a prefix of the message, whatever its head.
use Rattle.std.proofs.Common.{ap}
use Rattle.http_relay.specs.Giving.{Hop}
use Rattle.http_relay.specs.Keeping.{begun}
use Rattle.http_relay.proofs.hop.HopWriter.begin.Goals as goal

pub returns-clause-given : goal.returns-clause-given
returns-clause-given c = λ x none body taken h.
    begun x none c.args.head.items body taken c.args.framing c.args.self.now c.new.result c.self.inside.touched c.self.inside.fault
    c.self.inside.turn c.requires c.new.ensures (ap (λ (k : Hop). k.touched) c.self.view_is) h
