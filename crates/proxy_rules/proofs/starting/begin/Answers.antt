-- When a transaction begins, only the source's wire has given and taken, the service's side is unused, and no side has a fault.
use Rattle.std.proofs.Common.{◌≡◌, ◌++◌, Option, Some, None, IfSome, [], false, refl, ap, sym, subst, ◌∙◌, is_some}
use Rattle.trace_core.specs.History.{History, seen}
use Rattle.trace_core.specs.declared.history.Plan.{Plan}
use Rattle.adapt_hold.specs.Holding.{shows}
use Rattle.std.proofs.lemmas.List.{append-nil}
use Rattle.adapt_turn.specs.ChosenHead.{wire_of}
use Rattle.adapt_turn.specs.declared.ends.ServiceEnd.{ServiceEnd}
use Rattle.icap_client.specs.Turns.{Service}
use Rattle.http_relay.specs.Giving.{Hop, gift_of}
use Rattle.http_relay.specs.Source.{Agrees}
use Rattle.http_relay.specs.declared.side.SourceSide.{SourceSide}
use Rattle.proxy_rules.specs.Offers.{IsUnused, text_of}
use Rattle.proxy_rules.proofs.ArrivalLemmas.{has_begun}
use Rattle.proxy_rules.proofs.OfferLemmas.{unused_on}
use Rattle.proxy_rules.proofs.BeginLemmas.{nothing_on, faultless_on}
use Rattle.proxy_rules.proofs.RunLemmas.{not_both}
use Rattle.proxy_rules.proofs.SinceLemmas.{since_begun, grown_none}
use Rattle.proxy_rules.specs.Arrivals.{HasCome}
use Rattle.proxy_rules.specs.Since.{first_snapshot}
use Rattle.proxy_rules.specs.Beginnings.{service_end_of}
use Rattle.proxy_rules.proofs.starting.begin.Goals as goal

pub service_end-requires : goal.service_end-requires
service_end-requires g c =
    let may = c.requires.may in
    ap is_some c.into_plan-side.ensures.side ∙ may.line

pub new-tx-requires-clause-agrees : goal.new-tx-requires-clause-agrees
new-tx-requires-clause-agrees g c =
    subst (λ (p : Plan). Agrees (seen p []) c.into_sides-source.result.0.body) (sym c.into_plan-side.ensures.plan)
    (subst (λ (s : SourceSide). Agrees (seen c.args.beginning.offer.plan []) s.body) (sym c.into_sides-source.ensures.side)
    c.requires.may.agrees)

pub new-tx-requires-clause-may : goal.new-tx-requires-clause-may
new-tx-requires-clause-may g c =
    let may = c.requires.may in
    let side = c.into_sides-source.ensures.side in (
      λ e. may.read (sym (ap (λ (s : SourceSide). s.head) side) ∙ e),
      ap (λ (s : SourceSide). s.fault) side ∙ may.fault,
      subst (λ (p : Plan). Agrees (seen p []) c.into_sides-source.result.0.body) (sym c.into_plan-side.ensures.plan)
          (subst (λ (s : SourceSide). Agrees (seen c.args.beginning.offer.plan []) s.body) (sym side) may.agrees),
    )

-- the service's connection is the one that it begins with
line_is : {W : Type 0} (side : Option Service) (wire : Option W) → is_some side ≡ is_some wire → wire_of (service_end_of side wire) ≡ wire
line_is None None e = refl
line_is None (Some w) e = absurd cc
line_is (Some s) None e = absurd cc
line_is (Some s) (Some w) e = refl

pub invariant_of-result : goal.invariant_of-result
invariant_of-result g c =
    let may = c.requires.may in
    let source = c.into_sides-source in
    let plan = c.into_plan-side.result.0 in
    let read = source.ensures.arrives.read in
    let begins = has_begun source.result.0 c.args.beginning.message.user source.ensures.arrives
    (λ e. may.read (sym (ap (λ (s : SourceSide). s.head) source.ensures.side) ∙ e)) in
    let unused : IfSome c.service_end.result (λ line. IsUnused (text_of c.args.beginning.offer.side) line.side) =
    subst (λ (side : Option Service). IfSome c.service_end.result (λ line. IsUnused (text_of side) line.side)) c.into_plan-side.ensures.side
    (subst (λ (service : Option (ServiceEnd Service _)). IfSome service (λ line. IsUnused (text_of c.into_plan-side.result.1) line.side))
    (sym c.service_end.ensures)
    (unused_on plan c.into_plan-side.result.1 c.args.beginning.way.service c.into_plan-side.ensures.binds)) in
    let line = ap (λ z. wire_of z.service) c.new-tx.ensures.ends ∙ (ap (λ z. wire_of z) c.service_end.ensures
    ∙ line_is c.into_plan-side.result.1 c.args.beginning.way.service
    (ap is_some c.into_plan-side.ensures.side ∙ may.line)) in
    record {
      runs = ∣ record {
        start = first_snapshot (text_of c.args.beginning.offer.side) read [] c.args.beginning.way.source c.args.beginning.way.next
            c.args.beginning.way.service;
        since_is = since_begun g.W.SourceWire.Wire g.W.ServiceWire.Wire g.W.NextWire.Wire (text_of c.args.beginning.offer.side) read read []
            [] _ _ _ c.new-tx.result.ends.service _ _ _ _
            (c.new-tx.ensures.stands (record { bytes = read; ended = false }) (text_of c.args.beginning.offer.side)
            (begins (seen plan []) refl refl).0 (nothing_on (text_of c.args.beginning.offer.side) plan c.service_end.result unused)
            (ap (λ (h : Hop). gift_of h.stage) c.with_turn.ensures.shows ∙ ap (λ (h : Hop). gift_of h.stage) c.new.ensures.shows)
            (c.with_turn.ensures.aside [] c.new.ensures.aside) (ap (λ (h : Hop). gift_of h.stage) c.with_turn-2.ensures.shows
            ∙ ap (λ (h : Hop). gift_of h.stage) c.new-2.ensures.shows) (c.with_turn-2.ensures.aside [] c.new-2.ensures.aside))
            (sym (append-nil read)) (grown_none _) (ap (λ z. z.source_wire) c.new-tx.ensures.ends) line
            (ap (λ z. z.next_wire) c.new-tx.ensures.ends);
        faultless_is = λ going.
            c.new-tx.ensures.faultless (ap (λ (s : SourceSide). s.fault) source.ensures.side ∙ may.fault)
            (faultless_on (text_of c.args.beginning.offer.side) c.service_end.result unused)
            (ap (λ (h : Hop). h.fault) c.with_turn.ensures.shows ∙ ap (λ (h : Hop). h.fault) c.new.ensures.shows)
            (ap (λ (h : Hop). h.fault) c.with_turn-2.ensures.shows ∙ ap (λ (h : Hop). h.fault) c.new-2.ensures.shows);
        refused_is = λ over. not_both _ over (ap (λ (h : History). (shows h).closed) c.new-tx.ensures.begun);
      } ∣₁;
    }

pub returns-clause-since : goal.returns-clause-since
returns-clause-since g c = λ first ahead since beside came.
    let may = c.requires.may in
    let source = c.into_sides-source in
    let plan = c.into_plan-side.result.0 in
    let read = ahead ++ since in
    let begins = has_begun source.result.0 c.args.beginning.message.user
    (record {
      read = read;
      has_come = subst (λ (s : SourceSide). HasCome read s) (sym source.ensures.side) came.has_come;
      asks = source.ensures.arrives.asks;
    })
    (λ e. may.read (sym (ap (λ (s : SourceSide). s.head) source.ensures.side) ∙ e)) in
    let unused : IfSome c.service_end.result (λ line. IsUnused (text_of c.args.beginning.offer.side) line.side) =
    subst (λ (side : Option Service). IfSome c.service_end.result (λ line. IsUnused (text_of side) line.side)) c.into_plan-side.ensures.side
    (subst (λ (service : Option (ServiceEnd Service _)). IfSome service (λ line. IsUnused (text_of c.into_plan-side.result.1) line.side))
    (sym c.service_end.ensures)
    (unused_on plan c.into_plan-side.result.1 c.args.beginning.way.service c.into_plan-side.ensures.binds)) in
    let line = ap (λ z. wire_of z.service) c.new-tx.ensures.ends ∙ (ap (λ z. wire_of z) c.service_end.ensures
    ∙ line_is c.into_plan-side.result.1 c.args.beginning.way.service
    (ap is_some c.into_plan-side.ensures.side ∙ may.line)) in
    since_begun g.W.SourceWire.Wire g.W.ServiceWire.Wire g.W.NextWire.Wire (text_of c.args.beginning.offer.side) read ahead since beside _ _
    _ c.new-tx.result.ends.service _ _ _ _
    (c.new-tx.ensures.stands (record { bytes = read; ended = false }) (text_of c.args.beginning.offer.side)
    (begins (seen plan []) refl refl).0 (nothing_on (text_of c.args.beginning.offer.side) plan c.service_end.result unused)
    (ap (λ (h : Hop). gift_of h.stage) c.with_turn.ensures.shows ∙ ap (λ (h : Hop). gift_of h.stage) c.new.ensures.shows)
    (c.with_turn.ensures.aside [] c.new.ensures.aside) (ap (λ (h : Hop). gift_of h.stage) c.with_turn-2.ensures.shows
    ∙ ap (λ (h : Hop). gift_of h.stage) c.new-2.ensures.shows) (c.with_turn-2.ensures.aside [] c.new-2.ensures.aside))
    refl came.wire_is (ap (λ z. z.source_wire) c.new-tx.ensures.ends) line (ap (λ z. z.next_wire) c.new-tx.ensures.ends)

pub returns-clause-stands : goal.returns-clause-stands
returns-clause-stands g c =
    let may = c.requires.may in
    let source = c.into_sides-source in
    let plan = c.into_plan-side.result.0 in
    let read = source.ensures.arrives.read in
    let begins = has_begun source.result.0 c.args.beginning.message.user source.ensures.arrives
    (λ e. may.read (sym (ap (λ (s : SourceSide). s.head) source.ensures.side) ∙ e)) in
    let unused : IfSome c.service_end.result (λ line. IsUnused (text_of c.args.beginning.offer.side) line.side) =
    subst (λ (side : Option Service). IfSome c.service_end.result (λ line. IsUnused (text_of side) line.side)) c.into_plan-side.ensures.side
    (subst (λ (service : Option (ServiceEnd Service _)). IfSome service (λ line. IsUnused (text_of c.into_plan-side.result.1) line.side))
    (sym c.service_end.ensures)
    (unused_on plan c.into_plan-side.result.1 c.args.beginning.way.service c.into_plan-side.ensures.binds)) in (
      read,
      c.new-tx.ensures.stands (record { bytes = read; ended = false }) (text_of c.args.beginning.offer.side)
          (begins (seen plan []) refl refl).0 (nothing_on (text_of c.args.beginning.offer.side) plan c.service_end.result unused)
          (ap (λ (h : Hop). gift_of h.stage) c.with_turn.ensures.shows ∙ ap (λ (h : Hop). gift_of h.stage) c.new.ensures.shows)
          (c.with_turn.ensures.aside [] c.new.ensures.aside) (ap (λ (h : Hop). gift_of h.stage) c.with_turn-2.ensures.shows
          ∙ ap (λ (h : Hop). gift_of h.stage) c.new-2.ensures.shows) (c.with_turn-2.ensures.aside [] c.new-2.ensures.aside),
    )
