-- A sum over the transactions changes by what changes of one of them.
use Rattle.std.proofs.Common.{◌≡◌, ℕ, ◌+◌, Bool, true, false, ◌||◌, List, [], ◌∷◌, arith, refl, subst, ap}
use Rattle.std.specs.Prelude.{◌==◌, sum_by}
use Rattle.std.proofs.lemmas.Bool.Decides.{nat_tests}
use Rattle.std.proofs.lemmas.Bool.{eqb-true}
use Rattle.std.proofs.lemmas.List.Sums.{sum_by-cons}
use Rattle.world_core.proofs.Claiming.{is_in}
use Rattle.world_core.proofs.Showing.{AreApart}

-- a sum of numbers that are the same is the same
pub sum_unless : (u : ℕ) (f g : ℕ → ℕ) (xs : List ℕ) → is_in u xs ≡ false → ((t : ℕ) → (u == t) ≡ false → f t ≡ g t)
    → sum_by f xs ≡ sum_by g xs
sum_unless u f g [] n h = refl
sum_unless u f g (x ∷ xs) n h =
    let a = sum_by-cons f x xs in let b = sum_by-cons g x xs in
    let c = h x (apart u x (is_in u xs) n) in let d = sum_unless u f g xs (later u x (is_in u xs) n) h in omega arith
  where
    apart : (u x : ℕ) (b : Bool) → ((x == u) || b) ≡ false → (u == x) ≡ false
    apart u x b n = grind (arith, nat_tests)

    later : (u x : ℕ) (b : Bool) → ((x == u) || b) ≡ false → b ≡ false
    later u x b n = grind (arith, nat_tests)

-- one number of them changes
pub sum_changed : (u : ℕ) (f g : ℕ → ℕ) (xs : List ℕ) → AreApart xs → is_in u xs ≡ true → ((t : ℕ) → (u == t) ≡ false → f t ≡ g t)
    → sum_by f xs + g u ≡ sum_by g xs + f u
sum_changed u f g [] a i h = absurd cc
sum_changed u f g (x ∷ xs) a i h = by_case (x == u) refl (λ j. sum_changed u f g xs a.1 j h)
  where
    apart : (u x : ℕ) → (x == u) ≡ false → (u == x) ≡ false
    apart u x n = grind (arith, nat_tests)

    later : (u x : ℕ) (b : Bool) → (x == u) ≡ false → ((x == u) || b) ≡ true → b ≡ true
    later u x b n i = grind (arith, nat_tests)

    by_case : (b : Bool) → (x == u) ≡ b → (is_in u xs ≡ true → sum_by f xs + g u ≡ sum_by g xs + f u)
        → sum_by f (x ∷ xs) + g u ≡ sum_by g (x ∷ xs) + f u
    by_case true e rest =
        let all = sum_by-cons f x xs in let old = sum_by-cons g x xs in
        let own = eqb-true x u e in
        let left = ap f own in let right = ap g own in
        let same = sum_unless u f g xs (subst (λ (v : ℕ). is_in v xs ≡ false) own a.0) h in
        omega arith
    by_case false e rest =
        let all = sum_by-cons f x xs in let old = sum_by-cons g x xs in
        let own = h x (apart u x e) in
        let same = rest (later u x (is_in u xs) e i) in
        omega arith
