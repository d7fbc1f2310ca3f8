-- Where a text is cut: the first line, and the text up to a space.
use Rattle.std.proofs.Common.{◌≡◌, ◌≢◌, ℕ, zero, suc, ◌<◌, cond, List, [], ◌∷◌}
use Rattle.std.proofs.Common.{length, get_or, take, drop, ap, ◌∙◌, refl, arith, eq-eqb, ne_eqb}
use Rattle.proxy_commands.specs.Lines.{onto_first_line, lines_of}
use Rattle.proxy_commands.specs.Reading.{up_to_space, from_space}

-- the first line ends at the first LF
pub lines_of-at : (xs : List ℕ) (i : ℕ) → i < length xs → get_or xs i 0 ≡ 10
    → ((k : ℕ) → k < i → get_or xs k 0 ≢ 10)
    → lines_of xs ≡ take i xs ∷ lines_of (drop (suc i) xs)
lines_of-at [] i inside here before = absurd (omega arith)
lines_of-at (b ∷ bs) zero inside here before = ap (λ t. cond t ([] ∷ lines_of bs) (onto_first_line b (lines_of bs))) (eq-eqb b 10 here)
lines_of-at (b ∷ bs) (suc i) inside here before =
    ap (λ t. cond t ([] ∷ lines_of bs) (onto_first_line b (lines_of bs))) (ne_eqb b 10 (before 0 (omega arith)))
    ∙ ap (onto_first_line b) (lines_of-at bs i (omega arith) here (λ k below. before (suc k) (omega arith)))

-- with no LF the text is one line
pub lines_of-whole : (b : ℕ) (bs : List ℕ) → ((k : ℕ) → k < suc (length bs) → get_or (b ∷ bs) k 0 ≢ 10) → lines_of (b ∷ bs) ≡ (b ∷ bs) ∷ []
lines_of-whole b [] none = ap (λ t. cond t ([] ∷ []) ((b ∷ []) ∷ [])) (ne_eqb b 10 (none 0 (omega arith)))
lines_of-whole b (c ∷ cs) none =
    ap (λ t. cond t ([] ∷ lines_of (c ∷ cs)) (onto_first_line b (lines_of (c ∷ cs)))) (ne_eqb b 10 (none 0 (omega arith)))
    ∙ ap (onto_first_line b) (lines_of-whole c cs (λ k below. none (suc k) (omega arith)))

-- a text that has bytes but no LF is one line
pub lines_of-all : (xs : List ℕ) → 0 < length xs → ((k : ℕ) → k < length xs → get_or xs k 0 ≢ 10) → lines_of xs ≡ xs ∷ []
lines_of-all [] some none = absurd (omega arith)
lines_of-all (b ∷ bs) some none = lines_of-whole b bs none

-- a text with a space is cut there
pub up_to_space-at : (xs : List ℕ) (i : ℕ) → i < length xs → get_or xs i 0 ≡ 32
    → ((k : ℕ) → k < i → get_or xs k 0 ≢ 32)
    → (up_to_space xs ≡ take i xs) × (from_space xs ≡ drop i xs)
up_to_space-at [] i inside here before = absurd (omega arith)
up_to_space-at (b ∷ bs) zero inside here before =
    (ap (λ t. cond t [] (b ∷ up_to_space bs)) (eq-eqb b 32 here), ap (λ t. cond t (b ∷ bs) (from_space bs)) (eq-eqb b 32 here))
up_to_space-at (b ∷ bs) (suc i) inside here before =
    let rest = up_to_space-at bs i (omega arith) here (λ k below. before (suc k) (omega arith)) in
    let no = ne_eqb b 32 (before 0 (omega arith)) in
    (ap (λ t. cond t [] (b ∷ up_to_space bs)) no ∙ ap (λ t. b ∷ t) rest.0, ap (λ t. cond t (b ∷ bs) (from_space bs)) no ∙ rest.1)

-- a text with no space is whole before the cut, and nothing stands after it
pub up_to_space-all : (xs : List ℕ) → ((k : ℕ) → k < length xs → get_or xs k 0 ≢ 32) → (up_to_space xs ≡ xs) × (from_space xs ≡ [])
up_to_space-all [] none = (refl, refl)
up_to_space-all (b ∷ bs) none =
    let rest = up_to_space-all bs (λ k below. none (suc k) (omega arith)) in
    let no = ne_eqb b 32 (none 0 (omega arith)) in
    (ap (λ t. cond t [] (b ∷ up_to_space bs)) no ∙ ap (λ t. b ∷ t) rest.0, ap (λ t. cond t (b ∷ bs) (from_space bs)) no ∙ rest.1)
