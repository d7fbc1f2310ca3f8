-- The first unknown key of the table is the first with the table's name before it.
use Rattle.std.proofs.Common.{◌≡◌, ℕ, List, Some, option_and_then, sym, subst, rules}
use Rattle.toml.specs.Data.{get_member, as_table}
use Rattle.toml.specs.View.{table_view}
use Rattle.proxy_config.specs.Order.{IsFirst}
use Rattle.proxy_config.specs.Unknown.{IsUnknownOf, texts}
use Rattle.proxy_config.proofs.UnknownKeys.{first_of_table}
use Rattle.proxy_config.proofs.unknown.unknown_in.Goals as goal

pub returns-in_ok-nested-in-Some-first_unknown : goal.returns-in_ok-nested-in-Some-first_unknown
returns-in_ok-nested-in-Some-first_unknown c =
    let known = texts c.args.known.now in
    let name = c.args.name.now in
    let document = table_view c.args.table.now in
    let table = table_view c.in-Some.inner.now in
    let at : option_and_then as_table (get_member name document) ≡ Some table = search rules in
    let F : List ℕ → Type 0 = λ text. IsFirst (IsUnknownOf known name document) text in
    subst F (sym c.in_ok-nested-in-Some-first_unknown.ensures) (first_of_table known name document table c.in-Some-first_unknown.key.now at
    c.in-Some-first_unknown.ensures)
