-- A value is found at a key exactly where the table has a member there.
use Rattle.std.proofs.Common.{◌∙◌, ap, is_some}
use Rattle.toml.specs.View.{view}
use Rattle.toml.proofs.Views.{table_get}
use Rattle.icapd_commands.proofs.Forms.{some_kept}
use Rattle.icapd_commands.proofs.config.is_at.Goals as goal

pub returns : goal.returns
returns c =
    let found = table_get c.get.result c.args.key.now c.args.table.now.entries c.get.ensures.value in
    c.is_some.ensures ∙ some_kept (λ x. view x.now) c.get.result ∙ ap is_some found
