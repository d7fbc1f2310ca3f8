-- A holding with room for its preview takes a held byte's script alone, given the bytes it brings; the last event sends the byte.
use Rattle.world_ties.proofs.Alone.{runs_alone, sends_byte}
use Rattle.world_ties.proofs.script.a_script_needs_no_other_thread.Goals as goal

pub returns-clause-alone : goal.returns-clause-alone
returns-clause-alone c = runs_alone

pub returns-clause-sends : goal.returns-clause-sends
returns-clause-sends c = sends_byte
