-- What a source can't be read for is a fault of it.
use Rattle.proxy_commands.proofs.ReloadForms.{unread}
use Rattle.proxy_commands.proofs.reloading.read_anew.Goals as goal

pub returns-in-Err-clause-fault : goal.returns-in-Err-clause-fault
returns-in-Err-clause-fault g c =
    unread c.args.source.now c.in-Err.error _ c.in-Err.ensures.fault c.source_fault.ensures
