-- For a script of events alone, the answers of the machine to all of them are printed.
use Rattle.proxy_commands.proofs.Steps.{run_printed}
use Rattle.proxy_commands.proofs.laws.prints_the_answers_of_a_run.Goals as goal

pub returns : goal.returns
returns c = run_printed
