-- At its beginning a transaction stands with its wires: only the source's has given bytes, and none has taken any.
use Rattle.adapt_turn.proofs.Together.{begins}
use Rattle.adapt_turn.proofs.tx.Tx.new.Goals as goal

pub returns-clause-stands : goal.returns-clause-stands
returns-clause-stands g c = λ text request re sides ng na bg ba.
    let ends = c.args.start.ends in
    begins g.E.Reader.Source g.E.Client.Service g.E.Writer.Hop (g.E.Maker.MakesHead.makes ends.maker) c.begin_hold.result c.args.start.plan
    ends.source ends.service ends.next ends.back text request
    c.begin_hold.ensures.history c.begin_hold.ensures.empty.0 c.begin_hold.ensures.empty.1 c.requires.agrees
    re sides ng na bg ba
