-- The hosts in the order of their numbers are those that were read.
use Rattle.std.proofs.Common.{codes}
use Rattle.toml.specs.View.{table_view}
use Rattle.proxy_config.specs.Config.{IsFirstFault}
use Rattle.proxy_config.specs.Keys.Kind.{host_table}
use Rattle.proxy_config.specs.declared.host_table.Hosts.{Hosts}
use Rattle.proxy_config.proofs.HostTable.{tables}
use Rattle.proxy_config.proofs.Judging.{past, names_first}
use Rattle.proxy_config.proofs.Refusals.{passed_on}
use Rattle.proxy_config.proofs.hosts.read_hosts.Goals as goal

pub returns-clause-ok : goal.returns-clause-ok
returns-clause-ok c =
    let hosts : Hosts = record { all = c.in_ok-sorted.field-0; file = c.empty.result } in
    let (names, are_names, each) = c.in_ok-all.ensures.ok in
    tables (table_view c.args.table.now) names c.in_ok-all.all.items hosts are_names each c.in_ok-sorted.ensures.same c.empty.ensures

pub returns-clause-past : goal.returns-clause-past
returns-clause-past c =
    let hosts : Hosts = record { all = c.in_ok-sorted.field-0; file = c.empty.result } in
    let (names, are_names, each) = c.in_ok-all.ensures.ok in
    let are = tables (table_view c.args.table.now) names c.in_ok-all.all.items hosts are_names each c.in_ok-sorted.ensures.same
    c.empty.ensures in
    past (codes "hosts") host_table (table_view c.args.table.now) c.requires (hosts, are)

pub returns-in_err-all-clause-err : goal.returns-in_err-all-clause-err
returns-in_err-all-clause-err c =
    let document = table_view c.args.table.now in
    passed_on c.from_residual.result c.in_err-all.field-0.0 (IsFirstFault document) c.from_residual.ensures.1
    (names_first (codes "hosts") host_table document c.requires c.in_err-all.field-0.0 c.in_err-all.ensures.err)
