-- Each check is that of its key.
use Rattle.std.proofs.Common.{ℕ, List, [], ◌∷◌, ◌++◌, Bool, codes, map, option_copied, refl, sym, subst, rules}
use Rattle.std.proofs.Math.Bool.{beq}
use Rattle.proxy_config.specs.Changes.{IsFirstChange, fixed_of}
use Rattle.proxy_config.specs.Keys.{Row, of_number, retry_rows, told_rows, wait_rows}
use Rattle.proxy_config.specs.declared.config.Config.{Config}
use Rattle.proxy_config.proofs.FixedKeys.{same_number, same_truth, AreChecks, first_is, first_or}
use Rattle.proxy_config.proofs.NumberChanges.{differing_between}
use Rattle.proxy_config.proofs.changes.change_of_messages.Goals as goal

pub returns : goal.returns
returns c =
    let old : Config = c.args.old.now in
    let new : Config = c.args.new.now in
    let retry : List Row = fixed_of retry_rows in
    let waits : List Row = fixed_of (map of_number wait_rows) in
    let told : List Row = fixed_of told_rows in
    let retries : List (List ℕ × Bool) = (codes "retry", beq old.retry new.retry) ∷ [] in
    let tells : List (List ℕ × Bool) =
    (codes "log", beq c.is_some.result c.is_some-2.result) ∷
    (codes "log_query", beq old.log_query new.log_query) ∷
    (codes "metrics", c.same_address.result) ∷ [] in
    let are_retries : AreChecks retry old new retries = search (rules, same_number, same_truth) in
    let are_tells : AreChecks told old new tells = search (rules, same_number, same_truth) in
    let in_retry : IsFirstChange retry old new (option_copied c.first_other.result) =
    subst (IsFirstChange retry old new) (sym c.first_other.ensures) (first_is retry old new retries are_retries) in
    let in_told : IsFirstChange told old new (option_copied c.first_other-2.result) =
    subst (IsFirstChange told old new) (sym c.first_other-2.ensures) (first_is told old new tells are_tells) in
    let in_waits = differing_between wait_rows old new _ _ _ c.first_differing.ensures refl refl in
    first_or (retry ++ waits) told old new c.or.result c.first_other-2.result c.or-2.result c.or-2.ensures
    (first_or retry waits old new c.first_other.result c.first_differing.result c.or.result c.or.ensures in_retry in_waits)
    in_told
