-- A text without an address where one has to be says no network.
use Rattle.std.proofs.Common.{◌≡◌, ◌<◌, length, rules}
use Rattle.std.specs.List.{before_first, position_or_len}
use Rattle.proxy_config.specs.Networks.{is_slash}
use Rattle.proxy_config.proofs.NetworkLists.{no_network_alone, no_network_before}
use Rattle.proxy_config.proofs.PortLemmas.{then_none}
use Rattle.proxy_config.proofs.networks.network_in.Goals as goal

pub returns-in_err-address-clause-none : goal.returns-in_err-address-clause-none
returns-in_err-address-clause-none c =
    let whole : position_or_len is_slash c.args.text.now ≡ length c.args.text.now = search rules in
    then_none c.from_residual.result (no_network_alone c.args.text.now whole c.in_err-address.ensures.none)

pub returns-in_err-address-2-clause-none : goal.returns-in_err-address-2-clause-none
returns-in_err-address-2-clause-none c =
    let before = c.in-Some.address.now in
    let inside : position_or_len is_slash c.args.text.now < length c.args.text.now = search rules in
    let is : before ≡ before_first is_slash c.args.text.now = search rules in
    then_none c.from_residual-in_err-address-2.result (no_network_before c.args.text.now before inside is c.in_err-address-2.ensures.none)
