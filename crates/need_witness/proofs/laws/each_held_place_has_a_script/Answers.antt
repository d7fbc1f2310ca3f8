-- After a legal history the table's script for a held place is one for it; no script of the table is longer than the maximum.
use Rattle.trace_core.specs.History.{seen}
use Rattle.need_witness.proofs.Scripted.{is_script}
use Rattle.need_witness.proofs.FewEvents.{few_events}
use Rattle.need_witness.proofs.laws.each_held_place_has_a_script.Goals as goal

pub returns-clause-script : goal.returns-clause-script
returns-clause-script c = λ tape plan events place l h. is_script tape place plan events l h

pub returns-clause-few : goal.returns-clause-few
returns-clause-few c = λ tape plan events place. few_events tape (seen plan events) place
