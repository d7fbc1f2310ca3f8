-- Comparing the numbers of keys, one after the other.
use Rattle.std.proofs.Common.{◌≡◌, ℕ, suc, ◌+◌, ◌==◌, ◌<◌, List, [], ◌∷◌, map, Bool, true, false, cond, ◌&&◌, not, if◌then◌else◌, Option}
use Rattle.std.proofs.Common.{Some, drop, length, get_or, slice_index, refl, sym, ap, ◌∙◌, subst, arith}
use Rattle.std.proofs.Math.Seq.{drop-cons}
use Rattle.proxy_config.specs.Changes.{IsFirstChange, IsFirstDiffering, first_differing, fixed_of}
use Rattle.proxy_config.specs.Keys.{NumberRow, Row, of_number}
use Rattle.proxy_config.specs.Numbers.{key_rules, row_rules, rule_of}
use Rattle.proxy_config.specs.declared.config.Config.{Config}
use Rattle.proxy_config.specs.declared.number_key.NumberKey.{NumberKey}
use Rattle.proxy_config.proofs.FixedKeys.{first_here, none_first, same_number}

-- of the keys from a place on, it is the one there if its numbers differ and it can't change, else the first of the later ones
pub differing_from : (keys : List NumberKey) (old new : List ℕ) (at : ℕ) (key : NumberKey)
    → at < length keys → at < length old → at < length new
    → key ≡ get_or keys at key
    → first_differing (key_rules (drop at keys)) (drop at old) (drop at new)
    ≡ (if key.is_fixed && not (slice_index old at == slice_index new at) then Some key.name.now
    else first_differing (key_rules (drop (at + 1) keys)) (drop (at + 1) old) (drop (at + 1) new))
differing_from keys old new at key of_keys of_old of_new is =
    let first : drop at keys ≡ key ∷ drop (suc at) keys = drop-cons keys at key of_keys ∙ ap (λ k. k ∷ drop (suc at) keys) (sym is) in
    let next : suc at ≡ at + 1 = omega arith in
    let F : ℕ → Option (List ℕ) = λ n. if key.is_fixed && not (slice_index old at == slice_index new at) then Some key.name.now
    else first_differing (key_rules (drop n keys)) (drop n old) (drop n new) in
    ap (λ ks. first_differing (key_rules ks) (drop at old) (drop at new)) first
    ∙ ap (λ os. first_differing (rule_of key ∷ key_rules (drop (suc at) keys)) os (drop at new)) (drop-cons old at 0 of_old)
    ∙ ap (λ ns. first_differing (rule_of key ∷ key_rules (drop (suc at) keys)) (slice_index old at ∷ drop (suc at) old) ns)
    (drop-cons new at 0 of_new)
    ∙ ap F next

-- what is the same differs nowhere
neither : (is_fixed : Bool) (found later : Option (List ℕ)) → (if is_fixed && not true then found else later) ≡ later
neither true found later = refl
neither false found later = refl

-- where the numbers are the same the later ones are asked
pub passes_same : (is_fixed : Bool) (a b : ℕ) (found later : Option (List ℕ)) → a ≡ b
    → (if is_fixed && not (a == b) then found else later) ≡ later
passes_same is_fixed a b found later same =
    ap (λ (is : Bool). if is_fixed && not is then found else later) ((same_number a b).1 same) ∙ neither is_fixed found later

-- and so where the key can change
pub passes_live : (is_fixed : Bool) (a b : ℕ) (found later : Option (List ℕ)) → is_fixed ≡ false
    → (if is_fixed && not (a == b) then found else later) ≡ later
passes_live is_fixed a b found later is = ap (λ (it : Bool). if it && not (a == b) then found else later) is

-- the other way round
swapped : (same : Bool) (a b : Option (List ℕ)) → (if same then b else a) ≡ (if not same then a else b)
swapped true a b = refl
swapped false a b = refl

-- the first change of a row that can change, and of those after it
passing : (row : NumberRow) (rows : List NumberRow) (old new : Config) (later : Option (List ℕ))
    → IsFirstChange (fixed_of (map of_number rows)) old new later
    → (is_fixed : Bool) → is_fixed ≡ row.rule.is_fixed
    → IsFirstChange (fixed_of (map of_number (row ∷ rows))) old new
    (if is_fixed && not (row.value_in old == row.value_in new) then Some row.rule.name else later)
passing row rows old new later first false fixed_is =
    let after : List Row = fixed_of (map of_number rows) in
    subst (λ (b : Bool). IsFirstChange (cond b (of_number row ∷ after) after) old new later) fixed_is first
passing row rows old new later first true fixed_is =
    let after : List Row = fixed_of (map of_number rows) in
    let same : Bool = row.value_in old == row.value_in new in
    let name : List ℕ = row.rule.name in
    let here : IsFirstChange (of_number row ∷ after) old new (if not same then Some name else later) =
    subst (IsFirstChange (of_number row ∷ after) old new) (swapped same (Some name) later)
    (first_here same (of_number row) after old new name later refl (same_number (row.value_in old) (row.value_in new)) first) in
    subst (λ (b : Bool). IsFirstChange (cond b (of_number row ∷ after) after) old new (if not same then Some name else later)) fixed_is here

-- by the rules of some rows the first key of which the numbers differ is their first change
differing_is : (rows : List NumberRow) (old new : Config)
    → IsFirstChange (fixed_of (map of_number rows)) old new
    (first_differing (row_rules rows) (map (λ row. row.value_in old) rows) (map (λ row. row.value_in new) rows))
differing_is [] old new = none_first old new
differing_is (row ∷ rows) old new =
    passing row rows old new
    (first_differing (row_rules rows) (map (λ r. r.value_in old) rows) (map (λ r. r.value_in new) rows))
    (differing_is rows old new) row.rule.is_fixed refl

-- so of the numbers that two configurations have for these rows
pub differing_between : (rows : List NumberRow) (old new : Config) (olds news : List ℕ) (found : Option (List ℕ))
    → IsFirstDiffering (row_rules rows) olds news found
    → olds ≡ map (λ row. row.value_in old) rows → news ≡ map (λ row. row.value_in new) rows
    → IsFirstChange (fixed_of (map of_number rows)) old new found
differing_between rows old new olds news found is of_old of_new =
    subst (IsFirstChange (fixed_of (map of_number rows)) old new)
    (sym (is.is ∙ ap (λ xs. first_differing (row_rules rows) xs news) of_old
    ∙ ap (λ xs. first_differing (row_rules rows) (map (λ row. row.value_in old) rows) xs) of_new))
    (differing_is rows old new)
