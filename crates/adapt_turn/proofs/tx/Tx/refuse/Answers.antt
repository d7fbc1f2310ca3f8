-- The user's writer gets a refusal if no byte went out on it, else it stays; either way what stands goes on.
use Rattle.std.proofs.Common.{sym, ◌∙◌}
use Rattle.adapt_turn.proofs.Told.{failed_undone}
use Rattle.adapt_turn.proofs.ChosenHead.{made_by}
use Rattle.adapt_turn.proofs.Together.{views_by}
use Rattle.adapt_turn.proofs.Giving.{next_refuse_goes, back_refuse_goes}
use Rattle.adapt_turn.proofs.tx.Tx.refuse.Goals as goal

pub returns-in-Reqmod-clause-goes : goal.returns-in-Reqmod-clause-goes
returns-in-Reqmod-clause-goes g c =
    let hop_laws = g.met.E.Writer.Hop in
    let tx = c.args.self.now in
    let put = c.refuse_on-self in
    back_refuse_goes g.E.Writer.Hop (made_by g.E.Writer.Hop g.E.Client.Service (g.E.Maker.MakesHead.makes tx.ends.maker)
    (g.E.Reader.Source.head tx.ends.source) tx.ends.service) tx.hold
    (views_by g.E.Reader.Source g.E.Client.Service g.E.Writer.Hop (g.E.Maker.MakesHead.makes tx.ends.maker) tx.ends.source tx.ends.service
    tx.ends.next tx.ends.back tx.refusing)
    tx.ends.back put.new.hop put.result c.refusal_status_of-status.result _ hop_laws.untouched_given
    hop_laws.untouched_aside c.requires.over
    (failed_undone tx.hold.history tx.outcome c.args.cause tx.told c.requires.failed) (sym c.point-point.ensures ∙ c.in-Reqmod.is)
    put.ensures.untouched put.ensures.gift put.ensures.aside put.ensures.same

pub returns-in-Respmod-clause-goes : goal.returns-in-Respmod-clause-goes
returns-in-Respmod-clause-goes g c =
    let hop_laws = g.met.E.Writer.Hop in
    let tx = c.args.self.now in
    let put = c.refuse_on-self-in-Respmod in
    next_refuse_goes g.E.Writer.Hop (made_by g.E.Writer.Hop g.E.Client.Service (g.E.Maker.MakesHead.makes tx.ends.maker)
    (g.E.Reader.Source.head tx.ends.source) tx.ends.service) tx.hold
    (views_by g.E.Reader.Source g.E.Client.Service g.E.Writer.Hop (g.E.Maker.MakesHead.makes tx.ends.maker) tx.ends.source tx.ends.service
    tx.ends.next tx.ends.back tx.refusing)
    tx.ends.next put.new.hop put.result c.refusal_status_of-status.result _ hop_laws.untouched_given
    hop_laws.untouched_aside c.requires.over
    (failed_undone tx.hold.history tx.outcome c.args.cause tx.told c.requires.failed) (sym c.point-point.ensures ∙ c.in-Respmod.is)
    put.ensures.untouched put.ensures.gift put.ensures.aside put.ensures.same
