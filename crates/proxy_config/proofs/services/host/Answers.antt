-- A text that is no address makes no host.
use Rattle.std.proofs.Common.{◌≡◌, Some, codes, rules}
use Rattle.toml.specs.View.{table_view}
use Rattle.proxy_config.specs.Services.{text_at}
use Rattle.proxy_config.proofs.ServiceLemmas.{no_host}
use Rattle.proxy_config.proofs.services.host.Goals as goal

pub returns-in-Err-clause-none : goal.returns-in-Err-clause-none
returns-in-Err-clause-none c =
    let at : text_at (codes "host") (table_view c.args.table.now) ≡ Some c.as_bytes.result.now = search rules in
    no_host (table_view c.args.table.now) c.as_bytes.result.now at c.in-Err.ensures
