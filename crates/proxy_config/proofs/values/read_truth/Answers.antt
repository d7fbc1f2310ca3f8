-- The key is good where its truth value was found, and else it is the first at fault.
use Rattle.std.proofs.Common.{◌≡◌, Some}
use Rattle.toml.specs.Data.{get_member}
use Rattle.toml.specs.View.{table_view}
use Rattle.proxy_config.specs.Keys.Kind.{truth}
use Rattle.proxy_config.specs.Values.{truth_or}
use Rattle.proxy_config.proofs.Judging.{past_found, fault_found, said, unsaid}
use Rattle.proxy_config.proofs.values.read_truth.Goals as goal

pub returns-clause-past : goal.returns-clause-past
returns-clause-past c =
    let key = c.args.key.now in
    let document = table_view c.args.table.now in
    let says = truth_or c.args.default (get_member key document) in
    past_found (λ b. says ≡ Some b) c.truth_or.result c.needed.result key (truth c.args.default) document c.requires
    (λ b is. (b, is))
    (said c.truth_or.result says c.truth_or.ensures)
    c.needed.ensures.ok

pub returns-clause-err : goal.returns-clause-err
returns-clause-err c =
    let key = c.args.key.now in
    let document = table_view c.args.table.now in
    let says = truth_or c.args.default (get_member key document) in
    fault_found (λ b. says ≡ Some b) c.truth_or.result c.needed.result key (truth c.args.default) document c.requires
    (λ found none same. (λ good. none good.0 good.1, same))
    (unsaid c.truth_or.result says c.truth_or.ensures)
    c.needed.ensures.none
    c.needed.ensures.err
