-- What stands speaks of the service's side and not of its wire, so it still stands once that wire is given up.
use Rattle.adapt_turn.proofs.ServiceOver.{freed}
use Rattle.adapt_turn.proofs.tx.Tx.take_freed.Goals as goal

pub returns-clause-stands : goal.returns-clause-stands
returns-clause-stands g c = λ request t s.
    let tx = c.args.self.now in
    freed g.E.Reader.Source g.E.Client.Service g.E.Writer.Hop (g.E.Maker.MakesHead.makes tx.ends.maker) tx.hold tx.ends.source
    tx.ends.service c.take_wire.new.service tx.ends.next tx.ends.back tx.refusing request t c.take_wire.ensures.left s
