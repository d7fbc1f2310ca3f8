-- What was read is within the room, so its events may run; a fault fails the transaction unless the request may begin anew.
use Rattle.std.proofs.Common.{◌≡◌, ◌≤◌, ◌∙◌, ℕ, length, take, arith, refl, sym, subst, rules}
use Rattle.trace_core.specs.History.{History}
use Rattle.adapt_turn.specs.Reports.{HasFaultReason, lending, service_room}
use Rattle.adapt_turn.proofs.Reasons.{cause_of}
use Rattle.adapt_hold.specs.Holding.{shows}
use Rattle.adapt_turn.proofs.Passes as passes
use Rattle.adapt_turn.proofs.pass.service.hear.Goals as goal

pub step_all-requires : goal.step_all-requires
step_all-requires g c =
    let h = c.args.hold.now in
    let lent : ℕ = length (take c.adapted_room-room.result c.args.body.now) in
    let full : length c.read_turn.new.out ≡ service_room h = search rules in
    let few : length c.read_turn.new.out ≤ service_room h = omega (arith, full) in
    passes.hear_runs g.V.Service g.W.Wire (lending h c.args.service.now c.args.wire.now)
    (lending h c.read_turn.new.self c.read_turn.new.wire) c.state-state.result.now c.in-Ok.turn c.as_slice.result.now
    lent c.read_turn.new.out c.state-state.ensures.tied c.requires.roomy c.state-state.ensures.state
    c.as_slice.ensures.value few c.in-Ok.ensures.turn

pub returns-in-Ok-clause-reports : goal.returns-in-Ok-clause-reports
returns-in-Ok-clause-reports g c =
    let h = c.args.hold.now in
    let lent : ℕ = length (take c.adapted_room-room.result c.args.body.now) in
    let full : length c.read_turn.new.out ≡ service_room h = search rules in
    let few : length c.read_turn.new.out ≤ service_room h = omega (arith, full) in
    let room : lent ≡ service_room h = sym c.in-Ok.ensures.keeps ∙ full in
    passes.hear_took g.V.Service g.W.Wire (lending h c.args.service.now c.args.wire.now)
    (lending c.step_all.new.hold c.read_turn.new.self c.read_turn.new.wire) c.state-state.result.now c.in-Ok.turn c.as_slice.result.now
    c.read_turn.new.out lent c.went_on.result
    room c.state-state.ensures.tied c.requires.roomy c.state-state.ensures.state c.as_slice.ensures.value few c.in-Ok.ensures.turn
    c.step_all.ensures.stepped c.went_on.ensures

pub returns-in-Err-clause-reports : goal.returns-in-Err-clause-reports
returns-in-Err-clause-reports g c =
    let h = c.args.hold.now in
    let lent : ℕ = length (take c.adapted_room-room.result c.args.body.now) in
    let full : length c.read_turn.new.out ≡ service_room h = search rules in
    let room : lent ≡ service_room h = sym c.in-Err.ensures.keeps ∙ full in
    passes.hear_failed g.V.Service g.W.Wire (lending c.args.hold.now c.args.service.now c.args.wire.now)
    (lending c.service_failed.new.hold c.read_turn.new.self c.read_turn.new.wire) c.state-state.result.now c.in-Err.fault
    c.read_turn.new.out lent c.service_failed.result
    room c.requires.roomy c.requires.running c.state-state.ensures.state c.in-Err.ensures.turn c.service_failed.ensures.broken
    c.service_failed.ensures.closed

pub returns-in-Err-clause-unbroken : goal.returns-in-Err-clause-unbroken
returns-in-Err-clause-unbroken g c =
    let fault = c.in-Err.ensures.turn.fault in
    passes.unbroken_by c.args.hold.now c.service_failed.new.hold c.args.reused c.in-Err.fault _
    c.service_failed.result c.service_failed.result.broken refl (fault.stays c.in-Err.fault refl)
    c.service_failed.ensures.broken c.service_failed.ensures.unbroken

pub returns-in-Ok-clause-reason : goal.returns-in-Ok-clause-reason
returns-in-Ok-clause-reason g c =
    let turn_fault = c.in-Ok.ensures.turn.fault in
    subst (λ (y : History). HasFaultReason (g.V.Service.fault c.args.service.now) (g.V.Service.fault c.read_turn.new.self)
    (λ fault. g.V.Service.has_reason fault (shows y) c.read_turn.new.self)) c.state-state.ensures.state
    (cause_of _ _ _ _ turn_fault c.in-Ok.ensures.reason)

pub returns-in-Err-clause-reason : goal.returns-in-Err-clause-reason
returns-in-Err-clause-reason g c =
    let turn_fault = c.in-Err.ensures.turn.fault in
    subst (λ (y : History). HasFaultReason (g.V.Service.fault c.args.service.now) (g.V.Service.fault c.read_turn.new.self)
    (λ fault. g.V.Service.has_reason fault (shows y) c.read_turn.new.self)) c.state-state.ensures.state
    (cause_of _ _ _ _ turn_fault c.in-Err.ensures.reason)
