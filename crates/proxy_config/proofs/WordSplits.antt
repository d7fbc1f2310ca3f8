-- The first part between bytes that pass a test, and those after it.
use Rattle.std.proofs.Common.{◌≡◌, ℕ, zero, suc, ◌<◌, cond, List, [], ◌∷◌, Bool, true, false, length, get_or, take, drop, ap, ◌∙◌, refl}
use Rattle.std.proofs.Common.{arith}
use Rattle.std.specs.List.{slice_split, onto_first}

-- a text's parts are what stands before its first byte that passes, and the parts after it
pub split_at : (p : ℕ → Bool) (xs : List ℕ) (i : ℕ) → i < length xs → p (get_or xs i 0) ≡ true
    → ((k : ℕ) → k < i → p (get_or xs k 0) ≡ false)
    → slice_split p xs ≡ take i xs ∷ slice_split p (drop (suc i) xs)
split_at p [] i inside here before = absurd (omega arith)
split_at p (b ∷ bs) zero inside here before =
    ap (λ t. cond t ([] ∷ slice_split p bs) (onto_first b (slice_split p bs))) here
split_at p (b ∷ bs) (suc i) inside here before =
    ap (λ t. cond t ([] ∷ slice_split p bs) (onto_first b (slice_split p bs))) (before 0 (omega arith))
    ∙ ap (onto_first b) (split_at p bs i (omega arith) here (λ k below. before (suc k) (omega arith)))

-- a text of which no byte passes is its only part
pub split_whole : (p : ℕ → Bool) (xs : List ℕ) → ((k : ℕ) → k < length xs → p (get_or xs k 0) ≡ false) → slice_split p xs ≡ xs ∷ []
split_whole p [] none = refl
split_whole p (b ∷ bs) none =
    ap (λ t. cond t ([] ∷ slice_split p bs) (onto_first b (slice_split p bs))) (none 0 (omega arith))
    ∙ ap (onto_first b) (split_whole p bs (λ k below. none (suc k) (omega arith)))
