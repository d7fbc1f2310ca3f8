-- The key is good where it names an order, and else it is the first at fault.
use Rattle.std.proofs.Common.{◌≡◌, Some, codes}
use Rattle.toml.specs.Data.{get_member}
use Rattle.toml.specs.View.{table_view}
use Rattle.proxy_config.specs.Dial.{dial_or}
use Rattle.proxy_config.specs.Keys.Kind.{dial_time}
use Rattle.proxy_config.proofs.Judging.{past_found, fault_found, said, unsaid}
use Rattle.proxy_config.proofs.dial.read_dial.Goals as goal

pub returns-clause-past : goal.returns-clause-past
returns-clause-past c =
    let document = table_view c.args.table.now in
    let says = dial_or (get_member (codes "dial") document) in
    past_found (λ dial. says ≡ Some dial) c.dial_of.result c.needed.result (codes "dial") dial_time document c.requires
    (λ dial is. (dial, is))
    (said c.dial_of.result says c.dial_of.ensures)
    c.needed.ensures.ok

pub returns-clause-err : goal.returns-clause-err
returns-clause-err c =
    let document = table_view c.args.table.now in
    let says = dial_or (get_member (codes "dial") document) in
    fault_found (λ dial. says ≡ Some dial) c.dial_of.result c.needed.result (codes "dial") dial_time document c.requires
    (λ found none same. (λ good. none good.0 good.1, same))
    (unsaid c.dial_of.result says c.dial_of.ensures)
    c.needed.ensures.none
    c.needed.ensures.err
