-- A document's fault is that of its text.
use Rattle.std.proofs.Common.{◌≡◌, rules, Some}
use Rattle.toml.specs.Parse.{parse_document}
use Rattle.toml.specs.View.{table_view}
use Rattle.proxy_config.proofs.Refusals.{refuses_by_document}
use Rattle.proxy_config.proofs.reading.read_config.Goals as goal

pub returns-in-Ok-table_from_str-clause-err : goal.returns-in-Ok-table_from_str-clause-err
returns-in-Ok-table_from_str-clause-err c =
    let same : c.in-Ok.text.now ≡ c.args.text.now = c.in-Ok.ensures.cases.0 in
    let parsed : parse_document c.args.text.now ≡ Some (table_view c.in-Ok-table_from_str.table) = search (rules, same) in
    refuses_by_document
    c.args.text.now
    (table_view c.in-Ok-table_from_str.table)
    parsed
    c.read.result
    c.read.ensures.err
