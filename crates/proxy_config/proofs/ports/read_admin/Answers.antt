-- The key is good where its address was found, and else it is the first at fault.
use Rattle.std.proofs.Common.{codes}
use Rattle.toml.specs.View.{table_view}
use Rattle.proxy_config.specs.Keys.Kind.{admin_address}
use Rattle.proxy_config.specs.Ports.{IsAdmin}
use Rattle.proxy_config.proofs.Judging.{past_found, fault_found}
use Rattle.proxy_config.proofs.ports.read_admin.Goals as goal

pub returns-clause-past : goal.returns-clause-past
returns-clause-past c =
    let document = table_view c.args.table.now in
    past_found (λ value. IsAdmin document value) c.admin.result c.needed.result (codes "admin") admin_address document c.requires.next
    (λ value is. (value, is))
    c.admin.ensures.found
    c.needed.ensures.ok

pub returns-clause-err : goal.returns-clause-err
returns-clause-err c =
    let document = table_view c.args.table.now in
    fault_found (λ value. IsAdmin document value) c.admin.result c.needed.result (codes "admin") admin_address document c.requires.next
    (λ found none same. (λ good. none good.0 good.1, same))
    c.admin.ensures.none
    c.needed.ensures.none
    c.needed.ensures.err
