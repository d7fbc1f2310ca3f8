-- A failure touches no wire, so what stands goes on; and it brings no more of a body than a turn may.
use Rattle.adapt_turn.specs.Stands.{SideViews}
use Rattle.adapt_turn.proofs.Together.{views_by, others_by, fail_goes, goes_then}
use Rattle.std.proofs.Common.{◌∙◌}
use Rattle.adapt_turn.proofs.Paced.{fail_received, fail_adapted}
use Rattle.adapt_turn.proofs.tx.Tx.fail_by.Goals as goal

pub returns-clause-goes : goal.returns-clause-goes
returns-clause-goes g c =
    let service_laws = g.met.E.Client.Service in
    let source_laws = g.met.E.Reader.Source in
    let hop_laws = g.met.E.Writer.Hop in
    let tx = c.args.self.now in
    let views : SideViews = views_by g.E.Reader.Source g.E.Client.Service g.E.Writer.Hop (g.E.Maker.MakesHead.makes tx.ends.maker)
    tx.ends.source tx.ends.service tx.ends.next tx.ends.back tx.refusing in
    goes_then
    (fail_goes tx.hold c.fail.new.hold c.args.cause views views _ (record { hops = λ body to_next to_back p. p; refuses = λ r. r })
    (others_by g.E.Reader.Source g.E.Client.Service g.E.Writer.Hop (g.E.Maker.MakesHead.makes tx.ends.maker)
    source_laws.others_agree source_laws.others service_laws.others_sent
    service_laws.others_heard hop_laws.others tx.ends.source tx.ends.service tx.ends.next tx.ends.back tx.refusing)
    c.state-state.ensures.tied tx.roomy c.requires.running c.fail.ensures.moved)
    c.refuse.ensures.goes

pub returns-clause-paced : goal.returns-clause-paced
returns-clause-paced g c =
    let held = c.args.self.now.hold in
    let e = c.refuse.ensures.hold ∙ c.fail.ensures.moved in (
      fail_received held _ c.args.cause held.limits.turn c.state-state.ensures.tied c.requires.running e,
      fail_adapted held _ c.args.cause held.limits.turn c.state-state.ensures.tied c.requires.running e,
    )
