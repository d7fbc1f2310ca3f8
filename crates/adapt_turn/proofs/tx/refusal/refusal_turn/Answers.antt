-- A refusal that is out, or whose wire failed, writes nothing; else it moves a byte or waits, or its wire fails.
use Rattle.adapt_turn.proofs.Passes as passes
use Rattle.adapt_turn.proofs.Giving.{aside_still}
use Rattle.std.proofs.Common.{◌≡◌, ◌∙◌, inr, true, false, Some, None, refl, ap, sym, rules}
use Rattle.adapt_sides.specs.declared.fault.RelayFault.{RelayFault}
use Rattle.adapt_sides.specs.Turns.{wire_fault}
use Rattle.std.specs.Prelude.{is_some}
use Rattle.adapt_turn.proofs.Refusals.{refusal_waits, refusal_acts, wire_failed, first_failed}
use Rattle.adapt_turn.proofs.tx.refusal.refusal_turn.Goals as goal

pub write_turn-requires : goal.write_turn-requires
write_turn-requires g c = passes.keeps_undelivered_at c.args.hold.now c.state-state.result.now c.tape_of-tape.result.now
    c.state-state.ensures.tied c.state-state.ensures.state c.tape_of-tape.ensures.tape

pub returns-then-is_out-clause-takes : goal.returns-then-is_out-clause-takes
returns-then-is_out-clause-takes g c = aside_still _

pub returns-then-is_some-clause-takes : goal.returns-then-is_some-clause-takes
returns-then-is_some-clause-takes g c = aside_still _

pub returns-in-Ok-clause-waits : goal.returns-in-Ok-clause-waits
returns-in-Ok-clause-waits g c = λ e. refusal_waits c.args.hold.now c.state-state.result.now c.tape_of-tape.result.now c.in-Ok.turn _ _ _ _
    _ _ _ (λ x. g.K.Hop.rests x c.write_turn.new.self) _ _ c.state-state.ensures.state c.in-Ok.ensures.turn
    (let same : Some c.in-Ok.turn.waiting ≡ Some true = e in cc)

pub returns-in-Ok-clause-moves : goal.returns-in-Ok-clause-moves
returns-in-Ok-clause-moves g c = λ k e. refusal_acts c.args.hold.now c.state-state.result.now c.tape_of-tape.result.now c.in-Ok.turn _ _ _ _
    _ _ _ (λ x. g.K.Hop.rests x c.write_turn.new.self) _ _ c.state-state.ensures.state c.in-Ok.ensures.turn k
    (let same : Some c.in-Ok.turn.waiting ≡ Some false = e in cc)

pub returns-then-is_some-clause-over : goal.returns-then-is_some-clause-over
returns-then-is_some-clause-over g c =
    let some : is_some (g.K.Hop.fault c.args.hop.now) ≡ true = search rules in
    λ e. inr (wire_failed (g.K.Hop.fault c.args.hop.now) some c.requires.fault)

pub returns-in-Ok-clause-fault : goal.returns-in-Ok-clause-fault
returns-in-Ok-clause-fault g c =
    let fault = c.in-Ok.ensures.turn.fault in
    let n = fault.sound _ refl in n ∙ sym (ap wire_fault n)

pub returns-in-Err-clause-over : goal.returns-in-Err-clause-over
returns-in-Err-clause-over g c =
    let fault = c.in-Err.ensures.turn.fault in
    let none : g.K.Hop.fault c.args.hop.now ≡ None = search rules in
    λ e. inr (fault.stays _ refl ∙ ap (λ (f : RelayFault). Some f)
    (first_failed _ _ c.in-Err.field-0 (λ m. c.requires.message (sym c.in-Err.ensures.gift ∙ m))
    (c.in-Err.ensures.reason none c.in-Err.field-0 refl)))

pub returns-in-Err-clause-fault : goal.returns-in-Err-clause-fault
returns-in-Err-clause-fault g c =
    let fault = c.in-Err.ensures.turn.fault in
    let none : g.K.Hop.fault c.args.hop.now ≡ None = search rules in
    let d = fault.stays _ refl ∙ ap (λ (f : RelayFault). Some f)
    (first_failed _ _ c.in-Err.field-0 (λ m. c.requires.message (sym c.in-Err.ensures.gift ∙ m))
    (c.in-Err.ensures.reason none c.in-Err.field-0 refl)) in
    d ∙ sym (ap wire_fault d)
