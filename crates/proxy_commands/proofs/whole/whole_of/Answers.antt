-- A configuration with its files is whole, and one that lacks a file isn't.
use Rattle.proxy_commands.proofs.WholeForms.{not_whole, whole}
use Rattle.proxy_commands.proofs.whole.whole_of.Goals as goal

pub returns-in-Ok-clause-ok : goal.returns-in-Ok-clause-ok
returns-in-Ok-clause-ok g c =
    whole c.args.text.now c.in-Ok.config c.with_files.result c.in-Ok.ensures.ok c.with_files.ensures.ok

pub returns-in-Ok-clause-err : goal.returns-in-Ok-clause-err
returns-in-Ok-clause-err g c =
    not_whole c.args.text.now c.in-Ok.config c.with_files.result c.in-Ok.ensures.ok c.with_files.ensures.err
