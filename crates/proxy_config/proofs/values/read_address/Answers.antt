-- The key is good where its address was found, and else it is the first at fault.
use Rattle.toml.specs.View.{table_view}
use Rattle.proxy_config.specs.Keys.Kind.{address}
use Rattle.proxy_config.specs.Values.{HasAddress}
use Rattle.proxy_config.proofs.Judging.{past_found, fault_found}
use Rattle.proxy_config.proofs.values.read_address.Goals as goal

pub returns-clause-past : goal.returns-clause-past
returns-clause-past c =
    let document = table_view c.args.table.now in
    past_found (λ value. HasAddress c.args.key.now document value) c.address.result c.needed.result c.args.key.now address document
    c.requires
    (λ value is. (value, is))
    c.address.ensures.found
    c.needed.ensures.ok

pub returns-clause-err : goal.returns-clause-err
returns-clause-err c =
    let document = table_view c.args.table.now in
    fault_found (λ value. HasAddress c.args.key.now document value) c.address.result c.needed.result c.args.key.now address document
    c.requires
    (λ found none same. (λ good. none good.0 good.1, same))
    c.address.ensures.none
    c.needed.ensures.none
    c.needed.ensures.err
