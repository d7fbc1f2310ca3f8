-- The script that was found is the table's: it can be taken alone, and its last event sends the byte.
use Rattle.world_ties.proofs.Alone.{runs_slice, sends_byte}
use Rattle.world_ties.proofs.sending.send_held.Goals as goal

-- the script that was found is the table's
pub run_alone-requires : goal.run_alone-requires
run_alone-requires g c =
    runs_slice c.args.hold.now c.args.tape c.args.place c.args.bytes.now c.state.result.now c.in-Some.script.items c.as_slice.result.now
    c.state.ensures.tied c.requires.wide c.requires.held c.requires.bytes
    c.state.ensures.state c.in-Some.ensures.table c.as_slice.ensures.value

pub returns-clause-sends : goal.returns-clause-sends
returns-clause-sends g c =
    sends_byte c.args.hold.now c.args.tape c.args.place c.args.bytes.now
    c.state.ensures.tied c.requires.wide c.requires.held c.requires.bytes
