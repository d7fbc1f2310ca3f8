-- Each answer is of a fault of the source, or of a configuration that can't be taken over.
use Rattle.proxy_commands.proofs.ReloadForms.{not_taken, refused}
use Rattle.proxy_commands.proofs.reloading.reload.Goals as goal

pub returns-in-Some-clause-not_taken : goal.returns-in-Some-clause-not_taken
returns-in-Some-clause-not_taken g c =
    refused c.args.source.now c.args.old.now c.in-Ok.config c.in-Ok.count _ c.in-Ok.ensures.ok c.in-Some.ensures.some

pub returns-in-Err-clause-not_taken : goal.returns-in-Err-clause-not_taken
returns-in-Err-clause-not_taken g c =
    not_taken c.args.source.now c.args.old.now c.in-Err.fault _ c.in-Err.ensures.err c.answer_of.ensures
