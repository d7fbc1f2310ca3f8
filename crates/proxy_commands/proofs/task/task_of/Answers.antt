-- A word that is neither of the two gives the task that it gives before a path.
use Rattle.std.proofs.Common.{◌∙◌, sym}
use Rattle.proxy_commands.proofs.TaskForms.{differs, none_with_path, some_alone}
use Rattle.proxy_commands.proofs.task.task_of.Goals as goal

pub returns-else-eq-2-clause-found : goal.returns-else-eq-2-clause-found
returns-else-eq-2-clause-found c = some_alone c.args.word.now c.task_with_path.result c.task_with_path.ensures.found

pub returns-else-eq-2-clause-none : goal.returns-else-eq-2-clause-none
returns-else-eq-2-clause-none c =
    none_with_path c.args.word.now c.task_with_path.result (differs _ _ (sym c.eq.ensures ∙ c.if-eq.false))
    (differs _ _ (sym c.eq-else-eq.ensures ∙ c.if-eq-2.false)) c.task_with_path.ensures.none
