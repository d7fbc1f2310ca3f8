-- The key is good where it has networks, or is missing, and else it is the first at fault.
use Rattle.std.proofs.Common.{◌≡◌, List, [], Option, Vec, Global, None, option_map, codes, inl, inr, refl, subst}
use Rattle.toml.specs.Data.{get_member}
use Rattle.toml.specs.View.{table_view}
use Rattle.proxy_config.specs.declared.network.Network.{Network}
use Rattle.proxy_config.specs.Config.{IsFirstFault}
use Rattle.proxy_config.specs.Fault.{Names}
use Rattle.proxy_config.specs.Keys.{IsFaultOf}
use Rattle.proxy_config.specs.Keys.Kind.{denied_networks}
use Rattle.proxy_config.specs.Networks.{SaysNetworks}
use Rattle.proxy_config.proofs.Found.{at_none, some_at}
use Rattle.proxy_config.proofs.Judging.{past, names_first}
use Rattle.proxy_config.proofs.NetworkLists.{none_denied}
use Rattle.proxy_config.proofs.Refusals.{names_it, passed_on}
use Rattle.proxy_config.proofs.networks.read_denied.Goals as goal

pub returns-in-Some-clause-past : goal.returns-in-Some-clause-past
returns-in-Some-clause-past c =
    let document = table_view c.args.table.now in
    let P : Option (Vec Network Global) → Type 0 = λ found. SaysNetworks (codes "denied") document (option_map (λ vec. vec.items) found) in
    let has = subst P c.in-Some.is (some_at P c.in_ok-networks.ensures.ok c.in_ok-found.ensures.found) in
    past (codes "denied") denied_networks document c.requires (c.in-Some.networks.items, inr has)

pub returns-in-None-clause-past : goal.returns-in-None-clause-past
returns-in-None-clause-past c =
    let document = table_view c.args.table.now in
    let P : Option (Vec Network Global) → Type 0 = λ found. SaysNetworks (codes "denied") document (option_map (λ vec. vec.items) found) in
    let missing : get_member (codes "denied") document ≡ None =
    subst P c.in-None.is (some_at P c.in_ok-networks.ensures.ok c.in_ok-found.ensures.found) in
    let none : List Network = [] in
    past (codes "denied") denied_networks document c.requires (none, inl (missing, refl))

pub returns-in_err-networks-clause-err : goal.returns-in_err-networks-clause-err
returns-in_err-networks-clause-err c =
    let document = table_view c.args.table.now in
    let fault = c.in_err-networks.field-0.0 in
    let bad = none_denied (codes "denied") document (at_none c.in_err-networks.ensures.none c.in_ok-found.ensures.none) in
    let at : IsFaultOf denied_networks (codes "denied") document (codes "denied") = (λ good. bad good.0 good.1, refl) in
    let named : Names (IsFaultOf denied_networks (codes "denied") document) fault
    = names_it (codes "denied") (IsFaultOf denied_networks (codes "denied") document) at fault c.in_err-networks.ensures.err in
    passed_on c.from_residual-in_err-networks.result fault (IsFirstFault document) c.from_residual-in_err-networks.ensures.1
    (names_first (codes "denied") denied_networks document c.requires fault named)
