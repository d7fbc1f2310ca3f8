-- The chosen tape begins with what is due; events of the hop may run, and its fault, old or new, is why it fails.
use Rattle.std.proofs.Common.{List, [], Some, ap, ◌∙◌, sym, subst}
use Rattle.trace_core.specs.declared.history.Cause.{Cause}
use Rattle.adapt_turn.specs.declared.pass.PassAnswer.{PassAnswer}
use Rattle.trace_core.specs.declared.history.Event.{Event}
use Rattle.trace_core.specs.History.{History}
use Rattle.trace_core.specs.Turns.{MayAllFollow}
use Rattle.adapt_hold.specs.Holding.{shows}
use Rattle.adapt_hold.specs.Steps.{MayRun}
use Rattle.adapt_turn.proofs.Passes as passes
use Rattle.adapt_sides.specs.Turns.{FailsGiving}
use Rattle.adapt_turn.specs.Reports.{HasFaultReason, hop_cause, lending}
use Rattle.adapt_turn.proofs.Reasons.{cause_of, cause_weaker, giving_weaker, never_err, same_err}
use Rattle.adapt_turn.proofs.pass.hop.give.Goals as goal

pub write_turn-requires : goal.write_turn-requires
write_turn-requires g c = passes.keeps_undelivered_at c.args.hold.now c.state-state.result.now c.tape_of-tape.result.now
    c.state-state.ensures.tied c.state-state.ensures.state c.tape_of-tape.ensures.tape

pub step_all-requires : goal.step_all-requires
step_all-requires g c =
    let b = c.in-Ok.ensures.turn in
    let h = c.args.hold.now in
    subst (λ (es : List Event). MayRun h es []) (sym c.as_slice.ensures.value)
    (passes.hop_runs h c.in-Ok.turn.events.items c.requires.roomy (subst (λ (y : History). MayAllFollow (shows y) c.in-Ok.turn.events.items)
    c.state-state.ensures.state b.legal) b.only)

pub returns-in-Ok-clause-reports : goal.returns-in-Ok-clause-reports
returns-in-Ok-clause-reports g c =
    passes.hop_took g.K.Hop g.W.Wire (lending c.args.hold.now c.args.hop.now c.args.wire.now)
    (lending c.step_all.new.hold c.write_turn.new.self c.write_turn.new.wire) c.state-state.result.now c.tape_of-tape.result.now
    c.in-Ok.turn c.as_slice.result.now c.went_on.result
    c.requires.roomy c.requires.running c.requires.chosen c.state-state.ensures.state c.tape_of-tape.ensures.tape c.as_slice.ensures.value
    c.in-Ok.ensures.turn c.step_all.ensures.stepped c.went_on.ensures

pub returns-in-Err-clause-reports : goal.returns-in-Err-clause-reports
returns-in-Err-clause-reports g c =
    passes.hop_failed g.K.Hop g.W.Wire (lending c.args.hold.now c.args.hop.now c.args.wire.now)
    (lending c.close.new.hold c.write_turn.new.self c.write_turn.new.wire) c.state-state.result.now c.tape_of-tape.result.now
    c.in-Err.fault c.hop_cause.result c.close.result
    c.requires.roomy c.requires.running c.requires.chosen c.state-state.ensures.state c.tape_of-tape.ensures.tape c.in-Err.ensures.turn
    c.hop_cause.ensures c.close.ensures.passed c.close.ensures.moved

pub returns-in-Ok-clause-reason : goal.returns-in-Ok-clause-reason
returns-in-Ok-clause-reason g c =
    let fault = c.in-Ok.ensures.turn.fault in
    let new = c.write_turn.new.self in
    subst (λ (y : History). HasFaultReason (g.K.Hop.fault c.args.hop.now) (g.K.Hop.fault new)
    (FailsGiving (g.K.Hop.breaks_length (shows y) (g.K.Hop.body_framing new)))) c.state-state.ensures.state
    (cause_weaker _ _ _ _ (giving_weaker _ _) (cause_of _ _ _ _ fault c.in-Ok.ensures.reason))

pub returns-in-Err-clause-reason : goal.returns-in-Err-clause-reason
returns-in-Err-clause-reason g c =
    let fault = c.in-Err.ensures.turn.fault in
    let new = c.write_turn.new.self in
    subst (λ (y : History). HasFaultReason (g.K.Hop.fault c.args.hop.now) (g.K.Hop.fault new)
    (FailsGiving (g.K.Hop.breaks_length (shows y) (g.K.Hop.body_framing new)))) c.state-state.ensures.state
    (cause_weaker _ _ _ _ (giving_weaker _ _) (cause_of _ _ _ _ fault c.in-Err.ensures.reason))

pub returns-in-Ok-clause-again : goal.returns-in-Ok-clause-again
returns-in-Ok-clause-again g c =
    let fault = c.in-Ok.ensures.turn.fault in
    λ had e. never_err c.in-Ok.turn had _ (fault.again had e)

pub returns-in-Err-clause-again : goal.returns-in-Err-clause-again
returns-in-Err-clause-again g c =
    let fault = c.in-Err.ensures.turn.fault in
    λ had e. ap (λ (z : PassAnswer). z.failed) c.close.ensures.passed
    ∙ ap (λ (f : Cause). Some f) (c.hop_cause.ensures ∙ ap hop_cause (same_err c.in-Err.fault had
    (fault.again had e)))
