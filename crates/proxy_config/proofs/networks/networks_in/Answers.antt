-- Each value is a network, or one of them is none.
use Rattle.std.proofs.Common.{rules}
use Rattle.std.proofs.lemmas.List.{drop_all}
use Rattle.toml.specs.View.{view}
use Rattle.proxy_config.specs.Networks.{IsNetwork}
use Rattle.proxy_config.proofs.NetworkLists.{all_networks, no_networks, none_so_far, one_more}
use Rattle.proxy_config.proofs.networks.networks_in.Goals as goal

pub loop-value-init : goal.loop-value-init
loop-value-init c = none_so_far c.args.values.now c.new-networks.result.items (search rules)

pub returns-in_default-clause-none : goal.returns-in_default-clause-none
returns-in_default-clause-none c =
    no_networks
    c.args.values.now
    c.loop-value.networks.items
    c.loop-value.value-index
    c.value-item.result
    c.loop-value-test.true
    c.value-item.is
    c.loop-value.invariant
    (search rules)

pub loop-value-preserved : goal.loop-value-preserved
loop-value-preserved c =
    let is : IsNetwork (view c.value-item.result) c.in-Some.network = search rules in
    one_more
    c.args.values.now
    c.loop-value.networks.items
    c.push.new.self.items
    c.loop-value.value-index
    c.value-item.result
    c.in-Some.network
    c.loop-value-test.true
    c.value-item.is
    c.loop-value.invariant
    is
    (search rules)

pub returns-clause-found : goal.returns-clause-found
returns-clause-found c = all_networks c.args.values.now c.loop-value.networks.items c.loop-value.value-index
    (drop_all c.loop-value.value-index c.args.values.now c.loop-value-test.false) c.loop-value.invariant
