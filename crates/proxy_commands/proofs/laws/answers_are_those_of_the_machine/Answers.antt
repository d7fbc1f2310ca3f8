-- Events are answered as by the machine and leave a legal history; just a needed place has a script.
use Rattle.proxy_commands.proofs.Steps.{machine_answer, machine_legal, need_script, need_iff}
use Rattle.proxy_commands.proofs.laws.answers_are_those_of_the_machine.Goals as goal

pub returns : goal.returns
returns c = record { answer = machine_answer; legal = machine_legal; script = need_script; needed = need_iff }
