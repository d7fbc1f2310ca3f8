-- Each check is that of its key.
use Rattle.std.proofs.Common.{ℕ, List, [], ◌∷◌, Bool, codes, map, option_copied, refl, sym, subst, rules}
use Rattle.std.proofs.Math.Bool.{beq}
use Rattle.proxy_config.specs.Changes.{IsFirstChange, fixed_of}
use Rattle.proxy_config.specs.Keys.{Row, crowd_rows, header_rows, of_number}
use Rattle.proxy_config.specs.declared.config.Config.{Config}
use Rattle.proxy_config.proofs.FixedKeys.{same_number, same_truth, AreChecks, first_is, first_or}
use Rattle.proxy_config.proofs.NumberChanges.{differing_between}
use Rattle.proxy_config.proofs.changes.change_of_entrance.Goals as goal

pub returns : goal.returns
returns c =
    let old : Config = c.args.old.now in
    let new : Config = c.args.new.now in
    let headers : List Row = fixed_of header_rows in
    let checks : List (List ℕ × Bool) =
    (codes "carry", c.same_names.result) ∷
    (codes "proxy_protocol", beq old.proxy_protocol new.proxy_protocol) ∷ [] in
    let are : AreChecks headers old new checks = search (rules, same_number, same_truth) in
    let in_crowds = differing_between crowd_rows old new _ _ _ c.first_differing.ensures refl refl in
    let in_headers : IsFirstChange headers old new (option_copied c.first_other.result) =
    subst (IsFirstChange headers old new) (sym c.first_other.ensures) (first_is headers old new checks are) in
    first_or (fixed_of (map of_number crowd_rows)) headers old new c.first_differing.result c.first_other.result c.or.result c.or.ensures
    in_crowds in_headers
