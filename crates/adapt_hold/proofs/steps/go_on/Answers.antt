-- An event that may follow isn't refused, and without bytes it leaves a window where an adapted body may come.
use Rattle.adapt_hold.proofs.Row.{gone_on_roomy, never}
use Rattle.adapt_hold.proofs.steps.go_on.Goals as goal

pub unreachable-requires : goal.unreachable-requires
unreachable-requires g c = never c.args.hold.now c.args.event c.in-Err.field-0 c.state-state.ensures.tied c.requires.may c.in-Err.ensures.0

pub returns-clause-roomy : goal.returns-clause-roomy
returns-clause-roomy g c = gone_on_roomy c.args.hold.now c.move_on.new.self c.args.event c.state-state.ensures.tied c.requires.roomy
    c.requires.none c.requires.may c.in-Ok.ensures.1
