-- A value that is text says what its text does.
use Rattle.std.proofs.Common.{◌≡◌, Some, rules}
use Rattle.toml.specs.Data.{as_str}
use Rattle.toml.specs.View.{view}
use Rattle.proxy_config.proofs.Addresses.{if_none_then}
use Rattle.proxy_config.proofs.NetworkLists.{no_network_in}
use Rattle.proxy_config.proofs.networks.network_of.Goals as goal

pub returns-in-Some-clause-none : goal.returns-in-Some-clause-none
returns-in-Some-clause-none c =
    let at : as_str (view c.args.value.now) ≡ Some c.in-Some.text.now = search rules in
    if_none_then c.network_in.result (no_network_in (view c.args.value.now) c.in-Some.text.now at) c.network_in.ensures.none
