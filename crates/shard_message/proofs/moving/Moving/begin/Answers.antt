-- A request or a response that begins to move is accounted for since each way in which it set out.
use Rattle.std.proofs.Common.{◌≡◌, ap, sym, subst, ◌∙◌}
use Rattle.trace_core.specs.declared.history.Point.{Point}
use Rattle.trace_core.specs.declared.history.Point.TheVariants.{Reqmod, Respmod}
use Rattle.adapt_turn.specs.ChosenHead.{wire_of}
use Rattle.proxy_rules.specs.Arrivals.{Arrival, point_of}
use Rattle.proxy_rules.specs.Running.{StandsOver}
use Rattle.proxy_rules.specs.Since.{Since}
use Rattle.shard_message.specs.Outset.{HasComeOver}
use Rattle.shard_message.proofs.OutsetLemmas.{since_outset}
use Rattle.shard_message.proofs.moving.Moving.begin.Goals as goal

pub returns-in-Ok-clause-since : goal.returns-in-Ok-clause-since
returns-in-Ok-clause-since g c = λ s sets.
    let tx = c.in-Ok.tx.value.tx in
    let e : point_of c.args.message.value.user ≡ Reqmod =
    ap (λ (m : Arrival). point_of m.user) (sym c.deref.ensures) ∙ sym c.in-Reqmod.ensures in
    let came = subst (λ (p : Point). HasComeOver g.O.User.Wire g.O.Origin.Wire p c.args.message.value.side s sets.since
    c.args.connections.user c.args.connections.origin) e sets.came in
    since_outset (λ z. Since g.O.User.Wire g.O.Service.Wire g.O.Origin.Wire z (StandsOver tx.hold tx.ends tx.refusing) tx.ends.source_wire
    (wire_of tx.ends.service) tx.ends.next_wire)
    c.args.room.planned c.in-Ok.ensures.begins.planned s.request s.ahead s.beside s.user s.origin c.args.connections.origin s.line
    c.args.connections.service s.given
    c.in-Ok.ensures.begins.planned_is sets.request came.1 sets.line.0 sets.line.1
    (c.in-Ok.ensures.since s.user s.ahead sets.since s.beside came.0)

pub returns-in-Ok-set_out-clause-since : goal.returns-in-Ok-set_out-clause-since
returns-in-Ok-set_out-clause-since g c = λ s sets.
    let tx = c.in-Ok-set_out.tx.value.tx in
    let e : point_of c.args.message.value.user ≡ Respmod =
    ap (λ (m : Arrival). point_of m.user) (sym c.deref.ensures) ∙ sym c.in-Respmod.ensures in
    let came = subst (λ (p : Point). HasComeOver g.O.User.Wire g.O.Origin.Wire p c.args.message.value.side s sets.since
    c.args.connections.user c.args.connections.origin) e sets.came in
    since_outset (λ z. Since g.O.Origin.Wire g.O.Service.Wire g.O.User.Wire z (StandsOver tx.hold tx.ends tx.refusing) tx.ends.source_wire
    (wire_of tx.ends.service) tx.ends.next_wire)
    c.args.room.planned c.in-Ok-set_out.ensures.begins.planned s.request s.ahead s.beside s.origin s.user c.args.connections.user s.line
    c.args.connections.service s.given
    c.in-Ok-set_out.ensures.begins.planned_is sets.request came.1 sets.line.0 sets.line.1
    (c.in-Ok-set_out.ensures.since s.origin s.ahead sets.since s.beside came.0)
