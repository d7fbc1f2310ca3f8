-- What was read is within the room, so its events may run; a fault of the source closes the transaction.
use Rattle.std.proofs.Common.{◌≡◌, ◌≤◌, ◌∙◌, ℕ, List, length, take, arith, sym, subst, rules}
use Rattle.trace_core.specs.declared.history.Event.{Event}
use Rattle.adapt_hold.specs.Holding.{shows}
use Rattle.adapt_turn.specs.Reports.{lending, source_room}
use Rattle.adapt_hold.specs.Steps.{MayRun}
use Rattle.adapt_turn.proofs.Passes as passes
use Rattle.adapt_turn.proofs.Reasons.{cause_of}
use Rattle.adapt_turn.proofs.pass.source.read_source.Goals as goal

pub step_all-requires : goal.step_all-requires
step_all-requires g c =
    let h = c.args.hold.now in
    let turn = c.in-Ok.ensures.turn in
    let full : length c.read_turn.new.out ≡ source_room h = search rules in
    let few : length c.read_turn.new.out ≤ source_room h = omega (arith, full) in
    subst (λ (es : List Event). MayRun h es c.read_turn.new.out) (sym c.as_slice.ensures.value)
    (passes.source_runs h c.in-Ok.turn.events.items c.read_turn.new.out c.state-state.ensures.tied c.requires.roomy
    (turn.legal (shows h.history) c.requires.agrees c.requires.running).0 turn.only turn.count few)

pub returns-in-Ok-clause-reports : goal.returns-in-Ok-clause-reports
returns-in-Ok-clause-reports g c =
    let h = c.args.hold.now in
    let lent : ℕ = length (take c.original_room-room.result c.args.body.now) in
    let full : length c.read_turn.new.out ≡ source_room h = search rules in
    let few : length c.read_turn.new.out ≤ source_room h = omega (arith, full) in
    let room : lent ≡ source_room h = sym c.in-Ok.ensures.keeps ∙ full in
    passes.source_took g.S.Source g.A.Wire (lending h c.args.source.now c.args.wire.now)
    (lending c.step_all.new.hold c.read_turn.new.self c.read_turn.new.wire) c.in-Ok.turn c.as_slice.result.now c.read_turn.new.out
    lent c.went_on.result room c.state-state.ensures.tied c.requires.roomy c.requires.running c.requires.agrees few
    c.as_slice.ensures.value c.in-Ok.ensures.turn c.step_all.ensures.stepped c.went_on.ensures

pub returns-in-Err-clause-reports : goal.returns-in-Err-clause-reports
returns-in-Err-clause-reports g c =
    let h = c.args.hold.now in
    let lent : ℕ = length (take c.original_room-room.result c.args.body.now) in
    let full : length c.read_turn.new.out ≡ source_room h = search rules in
    let room : lent ≡ source_room h = sym c.in-Err.ensures.keeps ∙ full in
    passes.source_failed g.S.Source g.A.Wire (lending h c.args.source.now c.args.wire.now)
    (lending c.close.new.hold c.read_turn.new.self c.read_turn.new.wire) c.in-Err.fault c.read_turn.new.out lent
    c.source_cause.result c.close.result room c.requires.roomy c.requires.running c.requires.agrees c.in-Err.ensures.turn
    c.source_cause.ensures c.close.ensures.passed c.close.ensures.moved

pub returns-in-Ok-clause-reason : goal.returns-in-Ok-clause-reason
returns-in-Ok-clause-reason g c = cause_of _ _ _ _ c.in-Ok.ensures.turn.fault c.in-Ok.ensures.reason

pub returns-in-Err-clause-reason : goal.returns-in-Err-clause-reason
returns-in-Err-clause-reason g c = cause_of _ _ _ _ c.in-Err.ensures.turn.fault c.in-Err.ensures.reason
