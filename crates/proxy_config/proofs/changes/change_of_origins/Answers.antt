-- Each check is that of its key.
use Rattle.std.proofs.Common.{◌==◌, ℕ, List, [], ◌∷◌, Bool, codes, map, option_copied, refl, sym, subst, rules}
use Rattle.proxy_config.specs.Changes.{IsFirstChange, fixed_of}
use Rattle.proxy_config.specs.Keys.{Row, kept_rows, of_number, turn_rows}
use Rattle.proxy_config.specs.declared.config.Config.{Config}
use Rattle.proxy_config.proofs.FixedKeys.{same_number, same_truth, AreChecks, first_is, first_or}
use Rattle.proxy_config.proofs.NumberChanges.{differing_between}
use Rattle.proxy_config.proofs.changes.change_of_origins.Goals as goal

pub returns : goal.returns
returns c =
    let old : Config = c.args.old.now in
    let new : Config = c.args.new.now in
    let turns : List Row = fixed_of turn_rows in
    let checks : List (List ℕ × Bool) =
    (codes "dial", c.same_dial.result) ∷
    (codes "turn", old.turn == new.turn) ∷ [] in
    let are : AreChecks turns old new checks = search (rules, same_number, same_truth) in
    let in_kept = differing_between kept_rows old new _ _ _ c.first_differing.ensures refl refl in
    let in_turns : IsFirstChange turns old new (option_copied c.first_other.result) =
    subst (IsFirstChange turns old new) (sym c.first_other.ensures) (first_is turns old new checks are) in
    first_or (fixed_of (map of_number kept_rows)) turns old new c.first_differing.result c.first_other.result c.or.result c.or.ensures
    in_kept in_turns
