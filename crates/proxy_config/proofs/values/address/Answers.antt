-- A key that is missing has no address, and one with a value has that one alone.
use Rattle.std.proofs.Common.{◌≡◌, rules, Some, None}
use Rattle.toml.specs.View.{view, table_view}
use Rattle.toml.specs.Data.{get_member}
use Rattle.proxy_config.proofs.Addresses.{no_value, no_key, if_none_then}
use Rattle.proxy_config.proofs.values.address.Goals as goal

pub returns-in-Some-clause-none : goal.returns-in-Some-clause-none
returns-in-Some-clause-none c =
    let value : get_member c.args.key.now (table_view c.args.table.now) ≡ Some (view c.in-Some.value.now) = search rules in
    if_none_then c.address_of.result (no_key c.args.key.now (table_view c.args.table.now) (view c.in-Some.value.now) value) (search rules)

pub returns-in-None-clause-none : goal.returns-in-None-clause-none
returns-in-None-clause-none c =
    let none : get_member c.args.key.now (table_view c.args.table.now) ≡ None = search rules in
    λ address says. no_value c.args.key.now (table_view c.args.table.now) address none says
