-- The address is what the keys say, and of the keys at fault the first is named.
use Rattle.std.proofs.Common.{◌≡◌, None, codes, inl, inr, refl, sym, ◌∙◌, rules}
use Rattle.toml.specs.View.{table_view}
use Rattle.proxy_config.specs.Fault.{Names}
use Rattle.proxy_config.specs.Order.{nested}
use Rattle.proxy_config.specs.Parent.{parent_port, IsFirstOfParent, IsInParent}
use Rattle.proxy_config.specs.Services.{HasHost}
use Rattle.proxy_config.proofs.Refusals.{names_it, passed_on}
use Rattle.proxy_config.proofs.Found.{some_at, at_none, no_ok}
use Rattle.proxy_config.proofs.parent.read_table.Goals as goal

pub returns-clause-ok : goal.returns-clause-ok
returns-clause-ok c = record {
  text = c.in_ok-ip._text.now;
  host = some_at _ c.in_ok-ip.ensures.ok c.host.ensures.text;
  ip = search rules;
  port = search rules;
}

pub returns-in_err-ip-clause-err : goal.returns-in_err-ip-clause-err
returns-in_err-ip-clause-err c =
    let table = table_view c.args.table.now in
    let bad : HasHost table → ⊥ = at_none c.in_err-ip.ensures.none c.host.ensures.none in
    let first : IsFirstOfParent table (codes "host") = inl (bad, refl) in
    let says : IsInParent table (nested (codes "parent") (codes "host")) = (codes "host", first, refl) in
    let names : Names (IsInParent table) c.in_err-ip.field-0.0
    = names_it (nested (codes "parent") (codes "host")) (IsInParent table) says c.in_err-ip.field-0.0 c.in_err-ip.ensures.err in
    passed_on c.from_residual.result c.in_err-ip.field-0.0 (IsInParent table) c.from_residual.ensures.1 names

pub returns-in_err-ip-clause-ok : goal.returns-in_err-ip-clause-ok
returns-in_err-ip-clause-ok c = no_ok c.from_residual.result _ _ c.from_residual.ensures.1

pub returns-in_err-port-clause-err : goal.returns-in_err-port-clause-err
returns-in_err-port-clause-err c =
    let table = table_view c.args.table.now in
    let host : HasHost table = (
      c.in_ok-ip._text.now,
      c.in_ok-ip.ip,
      some_at _ c.in_ok-ip.ensures.ok c.host.ensures.text,
      some_at _ c.in_ok-ip.ensures.ok c.host.ensures.ip,
    ) in
    let bad : parent_port table ≡ None = sym c.port.ensures.number ∙ c.in_err-port.ensures.none in
    let first : IsFirstOfParent table (codes "port") = inr (host, inl (bad, refl)) in
    let says : IsInParent table (nested (codes "parent") (codes "port")) = (codes "port", first, refl) in
    let names : Names (IsInParent table) c.in_err-port.field-0.0
    = names_it (nested (codes "parent") (codes "port")) (IsInParent table) says c.in_err-port.field-0.0 c.in_err-port.ensures.err in
    passed_on c.from_residual-in_err-port.result c.in_err-port.field-0.0 (IsInParent table) c.from_residual-in_err-port.ensures.1 names

pub returns-in_err-port-clause-ok : goal.returns-in_err-port-clause-ok
returns-in_err-port-clause-ok c = no_ok c.from_residual-in_err-port.result _ _ c.from_residual-in_err-port.ensures.1
