-- Each field is what its key says, and of the keys at fault the first is named.
use Rattle.std.proofs.Common.{◌≡◌, None, IsSome, codes, inl, inr, refl, sym, ◌∙◌, rules}
use Rattle.toml.specs.View.{table_view}
use Rattle.proxy_config.specs.Fault.{Names}
use Rattle.proxy_config.specs.Order.{nested}
use Rattle.proxy_config.specs.Services.{HasHost, HasPath, port_of, connections_of, IsFirstOfService, IsInService}
use Rattle.proxy_config.proofs.Refusals.{names_it, passed_on}
use Rattle.proxy_config.proofs.Found.{some_at, at_none, some_is, no_ok}
use Rattle.proxy_config.proofs.services.read_service.Goals as goal

pub returns-clause-ok : goal.returns-clause-ok
returns-clause-ok c = record {
  host = search rules;
  ip = search rules;
  port = search rules;
  path = search rules;
  good_path = search rules;
  connections = search rules;
}

pub returns-in_err-ip-clause-err : goal.returns-in_err-ip-clause-err
returns-in_err-ip-clause-err c =
    let point = c.args.point.now in
    let table = table_view c.args.table.now in
    let bad : HasHost table → ⊥ = at_none c.in_err-ip.ensures.none c.host.ensures.none in
    let first : IsFirstOfService table (codes "host") = inl (bad, refl) in
    let says : IsInService point table (nested point (codes "host")) = (codes "host", first, refl) in
    let names : Names (IsInService point table) c.in_err-ip.field-0.0
    = names_it (nested point (codes "host")) (IsInService point table) says c.in_err-ip.field-0.0 c.in_err-ip.ensures.err in
    passed_on c.from_residual.result c.in_err-ip.field-0.0 (IsInService point table) c.from_residual.ensures.1 names

pub returns-in_err-ip-clause-ok : goal.returns-in_err-ip-clause-ok
returns-in_err-ip-clause-ok c = no_ok c.from_residual.result _ _ c.from_residual.ensures.1

pub returns-in_err-port-clause-err : goal.returns-in_err-port-clause-err
returns-in_err-port-clause-err c =
    let point = c.args.point.now in
    let table = table_view c.args.table.now in
    let host : HasHost table = (
      c.in_ok-ip.host.now,
      c.in_ok-ip.ip,
      some_at _ c.in_ok-ip.ensures.ok c.host.ensures.text,
      some_at _ c.in_ok-ip.ensures.ok c.host.ensures.ip,
    ) in
    let bad : port_of table ≡ None = sym c.number_or.ensures.number ∙ c.in_err-port.ensures.none in
    let first : IsFirstOfService table (codes "port") = inr (host, inl (bad, refl)) in
    let says : IsInService point table (nested point (codes "port")) = (codes "port", first, refl) in
    let names : Names (IsInService point table) c.in_err-port.field-0.0
    = names_it (nested point (codes "port")) (IsInService point table) says c.in_err-port.field-0.0 c.in_err-port.ensures.err in
    passed_on c.from_residual-in_err-port.result c.in_err-port.field-0.0 (IsInService point table) c.from_residual-in_err-port.ensures.1
    names

pub returns-in_err-port-clause-ok : goal.returns-in_err-port-clause-ok
returns-in_err-port-clause-ok c = no_ok c.from_residual-in_err-port.result _ _ c.from_residual-in_err-port.ensures.1

pub returns-in_err-path-2-clause-err : goal.returns-in_err-path-2-clause-err
returns-in_err-path-2-clause-err c =
    let point = c.args.point.now in
    let table = table_view c.args.table.now in
    let host : HasHost table = (
      c.in_ok-ip.host.now,
      c.in_ok-ip.ip,
      some_at _ c.in_ok-ip.ensures.ok c.host.ensures.text,
      some_at _ c.in_ok-ip.ensures.ok c.host.ensures.ip,
    ) in
    let port : IsSome (port_of table) = some_is (sym c.number_or.ensures.number ∙ c.in_ok-port.ensures.ok) in
    let bad : HasPath table → ⊥ = at_none c.in_err-path-2.ensures.none c.in_ok-path.ensures.none in
    let first : IsFirstOfService table (codes "path") = inr (host, inr (port, inl (bad, refl))) in
    let says : IsInService point table (nested point (codes "path")) = (codes "path", first, refl) in
    let names : Names (IsInService point table) c.in_err-path-2.field-0.0
    = names_it (nested point (codes "path")) (IsInService point table) says c.in_err-path-2.field-0.0 c.in_err-path-2.ensures.err in
    passed_on c.from_residual-in_err-path-2.result c.in_err-path-2.field-0.0 (IsInService point table)
    c.from_residual-in_err-path-2.ensures.1 names

pub returns-in_err-path-2-clause-ok : goal.returns-in_err-path-2-clause-ok
returns-in_err-path-2-clause-ok c = no_ok c.from_residual-in_err-path-2.result _ _ c.from_residual-in_err-path-2.ensures.1

pub returns-in_err-connections-clause-err : goal.returns-in_err-connections-clause-err
returns-in_err-connections-clause-err c =
    let point = c.args.point.now in
    let table = table_view c.args.table.now in
    let host : HasHost table = (
      c.in_ok-ip.host.now,
      c.in_ok-ip.ip,
      some_at _ c.in_ok-ip.ensures.ok c.host.ensures.text,
      some_at _ c.in_ok-ip.ensures.ok c.host.ensures.ip,
    ) in
    let port : IsSome (port_of table) = some_is (sym c.number_or.ensures.number ∙ c.in_ok-port.ensures.ok) in
    let path : HasPath table = (
      c.in_ok-path-2.path.now,
      some_at _ c.in_ok-path-2.ensures.ok c.in_ok-path.ensures.text,
      some_at _ c.in_ok-path-2.ensures.ok c.in_ok-path.ensures.good,
    ) in
    let bad : connections_of table ≡ None = sym c.number_or-connections.ensures.number ∙ c.in_err-connections.ensures.none in
    let first : IsFirstOfService table (codes "connections") = inr (host, inr (port, inr (path, inl (bad, refl)))) in
    let says : IsInService point table (nested point (codes "connections")) = (codes "connections", first, refl) in
    let names : Names (IsInService point table) c.in_err-connections.field-0.0
    = names_it (nested point (codes "connections")) (IsInService point table) says c.in_err-connections.field-0.0
    c.in_err-connections.ensures.err in
    passed_on c.from_residual-in_err-connections.result c.in_err-connections.field-0.0 (IsInService point table)
    c.from_residual-in_err-connections.ensures.1 names

pub returns-in_err-connections-clause-ok : goal.returns-in_err-connections-clause-ok
returns-in_err-connections-clause-ok c = no_ok c.from_residual-in_err-connections.result _ _ c.from_residual-in_err-connections.ensures.1
