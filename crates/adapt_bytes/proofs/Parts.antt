-- The first part between commas, and those after it.
use Rattle.std.proofs.Common.{◌≡◌, ℕ, zero, suc, ◌<◌, cond, List, [], ◌∷◌, length, get_or, take, drop, map, ap, ◌∙◌, refl, arith, eq-eqb}
use Rattle.std.proofs.Common.{ne_eqb, ◌≢◌, eqb}
use Rattle.std.specs.List.{slice_split, onto_first}
use Rattle.adapt_bytes.specs.Text.{trim, comma_parts}

-- a text with its first comma at a place is split there: what comes before, and the split of what comes after
split_at : (xs : List ℕ) (i : ℕ) → i < length xs → get_or xs i 0 ≡ 44 → ((k : ℕ) → k < i → get_or xs k 0 ≢ 44)
    → slice_split (λ b. eqb b 44) xs ≡ take i xs ∷ slice_split (λ b. eqb b 44) (drop (suc i) xs)
split_at [] i inside comma before = absurd (omega arith)
split_at (b ∷ bs) zero inside comma before =
    ap (λ t. cond t ([] ∷ slice_split (λ b. eqb b 44) bs) (onto_first b (slice_split (λ b. eqb b 44) bs))) (eq-eqb b 44 comma)
split_at (b ∷ bs) (suc i) inside comma before =
    ap (λ t. cond t ([] ∷ slice_split (λ b. eqb b 44) bs) (onto_first b (slice_split (λ b. eqb b 44) bs)))
    (ne_eqb b 44 (before 0 (omega arith)))
    ∙ ap (onto_first b) (split_at bs i (omega arith) comma (λ k below. before (suc k) (omega arith)))

-- a text without a comma is split into itself alone
split_whole : (xs : List ℕ) → ((k : ℕ) → k < length xs → get_or xs k 0 ≢ 44) → slice_split (λ b. eqb b 44) xs ≡ xs ∷ []
split_whole [] none = refl
split_whole (b ∷ bs) none =
    ap (λ t. cond t ([] ∷ slice_split (λ b. eqb b 44) bs) (onto_first b (slice_split (λ b. eqb b 44) bs)))
    (ne_eqb b 44 (none 0 (omega arith)))
    ∙ ap (onto_first b) (split_whole bs (λ k below. none (suc k) (omega arith)))

-- the first part is what comes before the first comma, trimmed, and the others are those of what comes after
pub comma_parts_at : (xs : List ℕ) (i : ℕ) → i < length xs → get_or xs i 0 ≡ 44 → ((k : ℕ) → k < i → get_or xs k 0 ≢ 44)
    → comma_parts xs ≡ trim (take i xs) ∷ comma_parts (drop (suc i) xs)
unfolding comma_parts
comma_parts_at xs i inside comma before = ap (map trim) (split_at xs i inside comma before)

-- the only part of a text without a comma is the text, trimmed
pub comma_parts_whole : (xs : List ℕ) → ((k : ℕ) → k < length xs → get_or xs k 0 ≢ 44) → comma_parts xs ≡ trim xs ∷ []
unfolding comma_parts
comma_parts_whole xs none = ap (map trim) (split_whole xs none)
