-- The key is good where it has a path, or is missing, and else it is the first at fault.
use Rattle.std.proofs.Common.{◌≡◌, ℕ, List, Option, Some, None, rules, refl, sym, ◌∙◌}
use Rattle.toml.specs.Data.{get_member}
use Rattle.toml.specs.View.{table_view}
use Rattle.proxy_config.specs.Keys.{IsFaultOf, IsGood}
use Rattle.proxy_config.specs.Keys.Kind.{file_path}
use Rattle.proxy_config.specs.FilePath.{path_or_none}
use Rattle.proxy_config.proofs.Judging.{past, names_first}
use Rattle.proxy_config.proofs.Refusals.{names_it}
use Rattle.proxy_config.proofs.file_path.read_path.Goals as goal

pub returns-in-Some-None-clause-past : goal.returns-in-Some-None-clause-past
returns-in-Some-None-clause-past c =
    let document = table_view c.args.table.now in
    let is : path_or_none (get_member c.args.key.now document) ≡ Some None = search rules in
    past c.args.key.now file_path document c.requires (None, is)

pub returns-in_ok-from_str-in-Some-Some-clause-past : goal.returns-in_ok-from_str-in-Some-Some-clause-past
returns-in_ok-from_str-in-Some-Some-clause-past c =
    let document = table_view c.args.table.now in
    let path : Option (List ℕ) = Some c.in-Some-Some.path.now in
    let is : path_or_none (get_member c.args.key.now document) ≡ Some path = search rules in
    past c.args.key.now file_path document c.requires (path, is)

pub returns-in-None-clause-err : goal.returns-in-None-clause-err
returns-in-None-clause-err c =
    let document = table_view c.args.table.now in
    let none : path_or_none (get_member c.args.key.now document) ≡ None = search rules in
    let bad : IsGood file_path c.args.key.now document → ⊥ = λ good. let both : None ≡ Some good.0 = sym none ∙ good.1 in cc in
    let at : IsFaultOf file_path c.args.key.now document c.args.key.now = (bad, refl) in
    names_first c.args.key.now file_path document c.requires c.at_key.result
    (names_it c.args.key.now (IsFaultOf file_path c.args.key.now document) at c.at_key.result c.at_key.ensures)
