-- An event that may follow isn't refused.
use Rattle.adapt_hold.proofs.Row.{never}
use Rattle.world_ties.proofs.sending.take_one.Goals as goal

-- what may follow isn't refused
pub unreachable-requires-in-Err-move_on : goal.unreachable-requires-in-Err-move_on
unreachable-requires-in-Err-move_on g c =
    never c.args.hold.now c.args.event c.in-Err-move_on.field-0 c.state-state.ensures.tied c.requires.0 c.in-Err-move_on.ensures.0
