-- The key is good where its table says a service, or is missing, and else the first key at fault is in it.
use Rattle.std.proofs.Common.{◌≡◌, Option, Some, None, rules}
use Rattle.toml.specs.Data.{get_member}
use Rattle.toml.specs.View.{table_view}
use Rattle.proxy_config.specs.Config.{IsFirstFault}
use Rattle.proxy_config.specs.Fault.{Names}
use Rattle.proxy_config.specs.Keys.Kind.{service}
use Rattle.proxy_config.specs.Services.{IsServiceFault, IsServiceOf}
use Rattle.proxy_config.specs.declared.point.ServicePoint.{ServicePoint}
use Rattle.proxy_config.proofs.Judging.{past, names_first}
use Rattle.proxy_config.proofs.Refusals.{passed_on}
use Rattle.proxy_config.proofs.services.read_point.Goals as goal

pub returns-in_default-clause-past : goal.returns-in_default-clause-past
returns-in_default-clause-past c =
    let point = c.args.point.now in
    let document = table_view c.args.table.now in
    let none : get_member point document ≡ None = search rules in
    past point service document c.requires (None, none)

pub returns-clause-past : goal.returns-clause-past
returns-clause-past c =
    let point = c.args.point.now in
    let document = table_view c.args.table.now in
    let found : Option ServicePoint = Some c.in_ok-read_service.field-0 in
    let is : IsServiceOf point document found = search rules in
    past point service document c.requires (found, is)

pub returns-in_err-service-clause-err : goal.returns-in_err-service-clause-err
returns-in_err-service-clause-err c =
    let point = c.args.point.now in
    let document = table_view c.args.table.now in
    let named : Names (IsServiceFault point document) c.in_err-service.field-0.0 = search rules in
    passed_on c.from_residual.result c.in_err-service.field-0.0 (IsFirstFault document) c.from_residual.ensures.1
    (names_first point service document c.requires c.in_err-service.field-0.0 named)

pub returns-in_err-read_service-clause-err : goal.returns-in_err-read_service-clause-err
returns-in_err-read_service-clause-err c =
    let point = c.args.point.now in
    let document = table_view c.args.table.now in
    let fault = c.in_err-read_service.field-0.0 in
    let named : Names (IsServiceFault point document) fault = search rules in
    passed_on c.from_residual-in_err-read_service.result fault (IsFirstFault document) c.from_residual-in_err-read_service.ensures.1
    (names_first point service document c.requires fault named)
