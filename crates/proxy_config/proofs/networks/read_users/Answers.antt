-- The key is good where it has networks, or is missing, and else it is the first at fault.
use Rattle.std.proofs.Common.{codes, option_map}
use Rattle.toml.specs.View.{table_view}
use Rattle.proxy_config.specs.Keys.Kind.{user_networks}
use Rattle.proxy_config.specs.Networks.{SaysNetworks}
use Rattle.proxy_config.proofs.Judging.{past_found, fault_without}
use Rattle.proxy_config.proofs.networks.read_users.Goals as goal

pub returns-clause-past : goal.returns-clause-past
returns-clause-past c =
    let document = table_view c.args.table.now in
    past_found (λ value. SaysNetworks (codes "users") document (option_map (λ vec. vec.items) value)) c.in_ok-found.found c.needed.result
    (codes "users")
    user_networks
    document
    c.requires
    (λ value is. (option_map (λ vec. vec.items) value, is))
    c.in_ok-found.ensures.found
    c.needed.ensures.ok

pub returns-clause-err : goal.returns-clause-err
returns-clause-err c =
    let document = table_view c.args.table.now in
    fault_without c.in_ok-found.found c.needed.result (codes "users") user_networks document c.requires
    (λ found none same. (λ good. none good.0 good.1, same))
    c.in_ok-found.ensures.none
    c.needed.ensures.none
    c.needed.ensures.err
