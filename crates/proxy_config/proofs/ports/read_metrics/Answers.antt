-- The key is good where it says where the counters are, or is missing, and else it is the first at fault.
use Rattle.std.proofs.Common.{codes}
use Rattle.toml.specs.View.{table_view}
use Rattle.proxy_config.specs.Keys.Kind.{metrics_address}
use Rattle.proxy_config.specs.Ports.{IsMetrics}
use Rattle.proxy_config.proofs.Judging.{past_found, fault_found}
use Rattle.proxy_config.proofs.ports.read_metrics.Goals as goal

pub returns-clause-past : goal.returns-clause-past
returns-clause-past c =
    let document = table_view c.args.table.now in
    past_found (λ value. IsMetrics document value) c.metrics.result c.needed.result (codes "metrics") metrics_address document
    c.requires.next
    (λ value is. (value, is))
    c.metrics.ensures.found
    c.needed.ensures.ok

pub returns-clause-err : goal.returns-clause-err
returns-clause-err c =
    let document = table_view c.args.table.now in
    fault_found (λ value. IsMetrics document value) c.metrics.result c.needed.result (codes "metrics") metrics_address document
    c.requires.next
    (λ found none same. (λ good. none good.0 good.1, same))
    c.metrics.ensures.none
    c.needed.ensures.none
    c.needed.ensures.err
