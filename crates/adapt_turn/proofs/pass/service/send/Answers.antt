-- The original's tape has what may still go; a fault in sending fails the transaction unless the request may begin anew.
use Rattle.std.proofs.Common.{List, [], refl, sym, subst}
use Rattle.trace_core.specs.declared.history.Event.{Event}
use Rattle.trace_core.specs.History.{History}
use Rattle.trace_core.specs.Turns.{MayAllFollow}
use Rattle.adapt_hold.specs.Holding.{shows}
use Rattle.adapt_hold.specs.Steps.{MayRun}
use Rattle.adapt_turn.specs.Reports.{lending}
use Rattle.adapt_turn.proofs.Passes as passes
use Rattle.adapt_turn.proofs.Reasons.{cause_of}
use Rattle.adapt_turn.proofs.pass.service.send.Goals as goal

pub write_turn-requires : goal.write_turn-requires
write_turn-requires g c = passes.keeps_unsent_at c.args.hold.now c.state-state.result.now c.original-tape.result.now
    c.state-state.ensures.tied c.state-state.ensures.state c.original-tape.ensures.tape

pub step_all-requires : goal.step_all-requires
step_all-requires g c =
    let b = c.in-Ok.ensures.turn in
    let h = c.args.hold.now in
    subst (λ (es : List Event). MayRun h es []) (sym c.as_slice.ensures.value)
    (passes.sending_runs h c.in-Ok.turn.events.items c.requires.roomy (subst
    (λ (y : History). MayAllFollow (shows y) c.in-Ok.turn.events.items) c.state-state.ensures.state b.legal) b.only)

pub returns-in-Ok-clause-reports : goal.returns-in-Ok-clause-reports
returns-in-Ok-clause-reports g c =
    passes.send_took g.V.Service g.W.Wire (lending c.args.hold.now c.args.service.now c.args.wire.now)
    (lending c.step_all.new.hold c.write_turn.new.self c.write_turn.new.wire) c.state-state.result.now c.original-tape.result.now
    c.in-Ok.turn c.as_slice.result.now c.went_on.result
    c.requires.roomy c.state-state.ensures.state c.original-tape.ensures.tape c.as_slice.ensures.value c.in-Ok.ensures.turn
    c.step_all.ensures.stepped c.went_on.ensures

pub returns-in-Err-clause-reports : goal.returns-in-Err-clause-reports
returns-in-Err-clause-reports g c =
    passes.send_failed g.V.Service g.W.Wire (lending c.args.hold.now c.args.service.now c.args.wire.now)
    (lending c.service_failed.new.hold c.write_turn.new.self c.write_turn.new.wire) c.state-state.result.now c.original-tape.result.now
    c.in-Err.fault c.service_failed.result
    c.requires.roomy c.requires.running c.state-state.ensures.state c.original-tape.ensures.tape c.in-Err.ensures.turn
    c.service_failed.ensures.broken c.service_failed.ensures.closed

pub returns-in-Err-clause-unbroken : goal.returns-in-Err-clause-unbroken
returns-in-Err-clause-unbroken g c =
    let fault = c.in-Err.ensures.turn.fault in
    passes.unbroken_by c.args.hold.now c.service_failed.new.hold c.args.reused c.in-Err.fault _
    c.service_failed.result c.service_failed.result.broken refl (fault.stays c.in-Err.fault refl)
    c.service_failed.ensures.broken c.service_failed.ensures.unbroken

pub returns-in-Ok-clause-reason : goal.returns-in-Ok-clause-reason
returns-in-Ok-clause-reason g c =
    let fault = c.in-Ok.ensures.turn.fault in
    cause_of _ _ _ _ fault c.in-Ok.ensures.reason

pub returns-in-Err-clause-reason : goal.returns-in-Err-clause-reason
returns-in-Err-clause-reason g c =
    let fault = c.in-Err.ensures.turn.fault in
    cause_of _ _ _ _ fault c.in-Err.ensures.reason
