-- After a retry all stands that stood, but with no byte given or taken by the service's wire; also with no service.
use Rattle.std.proofs.Common.{Some}
use Rattle.adapt_hold.specs.Holding.{shows}
use Rattle.adapt_turn.proofs.ChosenHead.{made_by, heads_then, line_heads, none_modified_before}
use Rattle.adapt_turn.proofs.Together.{views_by, others_by, line_again, none_again}
use Rattle.adapt_turn.proofs.tx.Tx.retry.Goals as goal

pub returns-in-Some-clause-anew : goal.returns-in-Some-clause-anew
returns-in-Some-clause-anew g c =
    let service_laws = g.met.E.Client.Service in
    let source_laws = g.met.E.Reader.Source in
    let hop_laws = g.met.E.Writer.Hop in
    λ request t s.
    let tx = c.args.self.now in
    let unmodified = none_modified_before tx.hold.history c.state-state.ensures.tied.legal c.requires.may in
    line_again g.E.Client.Service tx.ends.service c.in-Some.line (record { side = c.restart.new.self; wire = Some c.args.wire }) tx.hold
    c.go_on.new.hold
    (views_by g.E.Reader.Source g.E.Client.Service g.E.Writer.Hop (g.E.Maker.MakesHead.makes tx.ends.maker) tx.ends.source
    (Some (record { side = c.restart.new.self; wire = Some c.args.wire })) tx.ends.next tx.ends.back tx.refusing)
    (views_by g.E.Reader.Source g.E.Client.Service g.E.Writer.Hop (g.E.Maker.MakesHead.makes tx.ends.maker) tx.ends.source tx.ends.service
    tx.ends.next tx.ends.back tx.refusing)
    request t c.in-Some.is
    (record {
      hops = heads_then g.E.Writer.Hop (made_by g.E.Writer.Hop g.E.Client.Service (g.E.Maker.MakesHead.makes tx.ends.maker)
          (g.E.Reader.Source.head tx.ends.source) tx.ends.service) (made_by g.E.Writer.Hop g.E.Client.Service
          (g.E.Maker.MakesHead.makes tx.ends.maker) (g.E.Reader.Source.head tx.ends.source)
          (Some (record { side = c.restart.new.self; wire = Some c.args.wire }))) tx.ends.next tx.ends.back (shows tx.hold.history)
          (line_heads g.E.Writer.Hop g.E.Client.Service (g.E.Maker.MakesHead.makes tx.ends.maker) (g.E.Reader.Source.head tx.ends.source)
          tx.ends.service c.in-Some.line (record { side = c.restart.new.self; wire = Some c.args.wire }) (shows tx.hold.history)
          c.in-Some.is
          (λ e. absurd (unmodified e)) (λ e. absurd (unmodified e)));
      refuses = λ r. r;
    })
    (others_by g.E.Reader.Source g.E.Client.Service g.E.Writer.Hop (g.E.Maker.MakesHead.makes tx.ends.maker)
    source_laws.others_agree source_laws.others service_laws.others_sent
    service_laws.others_heard hop_laws.others tx.ends.source
    (Some (record { side = c.restart.new.self; wire = Some c.args.wire })) tx.ends.next tx.ends.back tx.refusing)
    c.state-state.ensures.tied tx.roomy c.requires.may c.go_on.ensures.stepped c.restart.ensures.sent c.restart.ensures.heard
    service_laws.unheard s

pub returns-in-None-clause-anew : goal.returns-in-None-clause-anew
returns-in-None-clause-anew g c =
    let service_laws = g.met.E.Client.Service in
    let source_laws = g.met.E.Reader.Source in
    let hop_laws = g.met.E.Writer.Hop in
    λ request t s.
    let tx = c.args.self.now in
    none_again g.E.Client.Service tx.ends.service tx.hold c.go_on.new.hold
    (views_by g.E.Reader.Source g.E.Client.Service g.E.Writer.Hop (g.E.Maker.MakesHead.makes tx.ends.maker) tx.ends.source
    tx.ends.service tx.ends.next tx.ends.back tx.refusing) request t c.in-None.is
    (others_by g.E.Reader.Source g.E.Client.Service g.E.Writer.Hop (g.E.Maker.MakesHead.makes tx.ends.maker)
    source_laws.others_agree source_laws.others service_laws.others_sent
    service_laws.others_heard hop_laws.others tx.ends.source tx.ends.service tx.ends.next tx.ends.back tx.refusing)
    c.state-state.ensures.tied tx.roomy c.requires.may c.go_on.ensures.stepped s
