-- Comparing the values of keys, one after the other.
use Rattle.std.proofs.Common.{◌≡◌, ◌↔◌, ◌==◌, ℕ, List, [], ◌∷◌, ◌++◌, Bool, true, false, if◌then◌else◌, Option, Some, None, IsTrue, inl}
use Rattle.std.proofs.Common.{inr, Bor, option_copied, refl, ap, sym, ◌∙◌, subst}
use Rattle.std.specs.Option.{option_or}
use Rattle.std.proofs.lemmas.Bool.{false≢true}
use Rattle.std.proofs.lemmas.Bool.Decides.{Decides-eqb}
use Rattle.std.proofs.Math.Bool.{beq}
use Rattle.std.specs.Cmp.{booleans_Decides}
use Rattle.proxy_config.specs.Changes.{first_other, Agrees, IsFirstChange}
use Rattle.proxy_config.specs.Keys.{Row}
use Rattle.proxy_config.specs.declared.config.Config.{Config}

-- the checks are those of these keys
abbrev pub AreChecks : List Row → Config → Config → List (List ℕ × Bool) → Type 0
AreChecks [] old new [] = Unit {0}
AreChecks [] old new (check ∷ checks) = ⊥
AreChecks (row ∷ rows) old new [] = ⊥
AreChecks (row ∷ rows) old new (check ∷ checks) = (check.0 ≡ row.name) × (IsTrue check.1 ↔ Agrees row old new)
    × AreChecks rows old new checks

-- two numbers compare as equal just where they are the same
pub same_number : (a b : ℕ) → IsTrue (a == b) ↔ (a ≡ b)
same_number a b = ((Decides-eqb a b).0, (Decides-eqb a b).1)

-- two truth values compare as equal just where they are the same
pub same_truth : (a b : Bool) → IsTrue (beq a b) ↔ (a ≡ b)
same_truth a b = ((booleans_Decides a b).0, (booleans_Decides a b).1)

-- with one more key before some, the first change is it where it differs, else the first of those
pub first_here : (same : Bool) (row : Row) (rows : List Row) (old new : Config) (name : List ℕ) (later : Option (List ℕ)) → name ≡ row.name
    → (IsTrue same ↔ Agrees row old new)
    → IsFirstChange rows old new later → IsFirstChange (row ∷ rows) old new (if same then later else Some name)
unfolding IsFirstChange
first_here true row rows old new name later is agrees first = inl (agrees.0 refl, first)
first_here false row rows old new name later is agrees first = inr (λ same. false≢true (agrees.1 same), ap Some is)

-- of no keys none is the first change
pub none_first : (old new : Config) → IsFirstChange [] old new None
unfolding IsFirstChange
none_first old new = refl

-- the first of some checks that fails is the first change of their keys
pub first_is : (rows : List Row) (old new : Config) (checks : List (List ℕ × Bool)) → AreChecks rows old new checks
    → IsFirstChange rows old new (first_other checks)
first_is [] old new [] are = none_first old new
first_is [] old new (check ∷ checks) are = absurd are
first_is (row ∷ rows) old new [] are = absurd are
first_is (row ∷ rows) old new (check ∷ checks) are =
    first_here check.1 row rows old new check.0 (first_other checks) are.0 are.1 (first_is rows old new checks are.2)

-- the first change of some keys, or else that of those after them, is the first of all
pub first_then : (rows more : List Row) (old new : Config) (found later : Option (List ℕ)) → IsFirstChange rows old new found
    → IsFirstChange more old new later → IsFirstChange (rows ++ more) old new (option_or found later)
unfolding IsFirstChange
first_then [] more old new found later first second =
    subst (λ (o : Option (List ℕ)). IsFirstChange more old new (option_or o later)) (sym first) second
first_then (row ∷ rows) more old new found later first second =
    elim first as (λ _. IsFirstChange (row ∷ rows ++ more) old new (option_or found later)) [
      | inl agreed ↦ inl (agreed.0, first_then rows more old new found later agreed.1 second)
      | inr other ↦ inr (other.0, ap (λ (o : Option (List ℕ)). option_or o later) other.1)
    ]

-- the value of an option, or else that of another one
copied_or : (one other : Option (Bor (List ℕ))) → option_copied (option_or one other) ≡ option_or (option_copied one) (option_copied other)
copied_or None other = refl
copied_or (Some key) other = refl

-- so of the keys that two calls answer
pub first_or : (rows more : List Row) (old new : Config) (one other found : Option (Bor (List ℕ))) → found ≡ option_or one other
    → IsFirstChange rows old new (option_copied one) → IsFirstChange more old new (option_copied other)
    → IsFirstChange (rows ++ more) old new (option_copied found)
first_or rows more old new one other found is first second =
    subst (IsFirstChange (rows ++ more) old new) (sym (ap option_copied is ∙ copied_or one other))
    (first_then rows more old new (option_copied one) (option_copied other) first second)
