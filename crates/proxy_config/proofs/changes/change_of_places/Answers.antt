-- Each check is that of its key.
use Rattle.std.proofs.Common.{ℕ, List, [], ◌∷◌, Bool, codes, sym, subst, rules}
use Rattle.proxy_config.specs.Changes.{IsFirstChange, fixed_of}
use Rattle.proxy_config.specs.Keys.{place_rows}
use Rattle.proxy_config.specs.declared.config.Config.{Config}
use Rattle.proxy_config.proofs.FixedKeys.{AreChecks, first_is}
use Rattle.proxy_config.proofs.changes.change_of_places.Goals as goal

pub returns : goal.returns
returns c =
    let old : Config = c.args.old.now in
    let new : Config = c.args.new.now in
    let checks : List (List ℕ × Bool) =
    (codes "reqmod", c.same_service.result) ∷
    (codes "respmod", c.same_service-2.result) ∷
    (codes "parent", c.same_address.result) ∷ [] in
    let are : AreChecks (fixed_of place_rows) old new checks = search rules in
    subst (IsFirstChange (fixed_of place_rows) old new) (sym c.first_other.ensures) (first_is (fixed_of place_rows) old new checks are)
