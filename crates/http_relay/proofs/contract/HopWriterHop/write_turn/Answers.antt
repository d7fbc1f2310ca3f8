-- A write turn does what a transaction asks of a next hop; a first fault is the wire's, or that the body breaks its length.
use Rattle.std.proofs.Common.{◌≡◌, subst, Option, Some, None, Result, Err, IfSome, IfErr, OnOk}
use Rattle.trace_core.specs.History.{shows}
use Rattle.adapt_sides.specs.declared.turn.Turn.{Turn}
use Rattle.adapt_sides.specs.declared.fault.RelayFault.{RelayFault}
use Rattle.http_relay.proofs.Gives.{as_gives, fails_giving}
use Rattle.http_relay.proofs.contract.HopWriterHop.write_turn.Goals as goal

pub returns-clause-gift : goal.returns-clause-gift
returns-clause-gift g c =
    let turn = c.write_turn.ensures.turn in
    turn.goes_on.gift

pub returns-clause-turn : goal.returns-clause-turn
returns-clause-turn g c =
    let o = c.write_turn.ensures in
    let result : Result Turn RelayFault = c.write_turn.result in
    as_gives (shows c.args.state.now) c.args.tape.now c.args.self.now c.write_turn.new.self (g.W.Wire.past c.args.wire.now)
    (g.W.Wire.past c.write_turn.new.wire) result c.requires o.turn
    (λ t e. subst (λ (r : Result Turn RelayFault). OnOk r (c.write_turn.new.self.fault ≡ None)) e o.sound)
    (λ f e. subst (λ (t : Option RelayFault). IfSome t (λ h. result ≡ Err h)) e o.faulted)
    (λ f e. subst (λ (r : Result Turn RelayFault). IfErr r (λ h. c.write_turn.new.self.fault ≡ Some h)) e o.keeps)

pub returns-clause-reason : goal.returns-clause-reason
returns-clause-reason g c =
    let t = c.write_turn.ensures.turn in
    λ none fault e.
    fails_giving (shows c.args.state.now) c.args.self.now c.write_turn.new.self t.answer c.write_turn.result (t.fits none) t.goes_on.framing
    t.goes_on.gift fault e
