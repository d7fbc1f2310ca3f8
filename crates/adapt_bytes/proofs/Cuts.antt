-- A text is cut at the first place of a byte in one way.
use Rattle.std.proofs.Common.{◌≡◌, ◌≢◌, ℕ, suc, ◌+◌, ◌<◌, ◌≤◌, List, [], ◌∷◌, ◌++◌, length, get_or, take, drop, refl, sym, ap, ◌∙◌, arith}
use Rattle.std.proofs.Common.{take-append-drop, length-take-le, get_or-take}
use Rattle.std.proofs.lemmas.List.{drop_more}
use Rattle.adapt_bytes.specs.Text.{Lacks}

-- a text that lacks a byte lacks it after its first byte too
pub Lacks-tail : (c b : ℕ) (behind : List ℕ) → Lacks c (b ∷ behind) → Lacks c behind
Lacks-tail c b behind lacks k inside = lacks (suc k) (omega arith)

-- the text after its first byte, and nothing of an empty one
tail_of : List ℕ → List ℕ
tail_of [] = []
tail_of (b ∷ behind) = behind

-- two cuts of one text at a byte that neither prefix has are the same cut
pub first_cut : (c : ℕ) (a b x y : List ℕ) → Lacks c a → Lacks c b → a ++ c ∷ x ≡ b ++ c ∷ y → (a ≡ b) × (x ≡ y)
first_cut c [] [] x y na nb e = (refl, cc)
first_cut c [] (b ∷ behind) x y na nb e = let same : b ≡ c = cc in absurd (nb 0 (omega arith) same)
first_cut c (a ∷ front) [] x y na nb e = let same : a ≡ c = cc in absurd (na 0 (omega arith) same)
first_cut c (a ∷ front) (b ∷ behind) x y na nb e =
    let heads : a ≡ b = cc in
    let tails : front ++ c ∷ x ≡ behind ++ c ∷ y = cc in
    let rest = first_cut c front behind x y (Lacks-tail c a front na) (Lacks-tail c b behind nb) tails in
    let same : front ≡ behind = rest.0 in
    (cc, rest.1)

-- the text round the place of a byte
pub cut_here : (text : List ℕ) (at c : ℕ) → at < length text → get_or text at 0 ≡ c → text ≡ take at text ++ c ∷ drop (at + 1) text
cut_here text at c inside is =
    sym (take-append-drop at text) ∙ ap (λ t. take at text ++ t) (drop_more text at 0 inside ∙ ap (λ b. b ∷ drop (at + 1) text) is)

-- a prefix lacks a byte that stands at none of its places
pub Lacks-take : (c : ℕ) (text : List ℕ) (at : ℕ) → at ≤ length text → ((k : ℕ) → k < at → get_or text k 0 ≢ c) → Lacks c (take at text)
Lacks-take c text at fits before k inside is =
    let len = length-take-le at text fits in
    before k (omega arith) (sym (get_or-take at text k 0 (omega arith)) ∙ is)

-- where the text is cut at its first c
pub cut_at : (c : ℕ) (text a x : List ℕ) (at : ℕ) → Lacks c a → text ≡ a ++ c ∷ x → at < length text → get_or text at 0 ≡ c
    → ((k : ℕ) → k < at → get_or text k 0 ≢ c) → (a ≡ take at text) × (x ≡ drop (at + 1) text)
cut_at c text a x at lacks cut inside is before =
    first_cut c a (take at text) x (drop (at + 1) text) lacks (Lacks-take c text at (omega arith) before)
    (sym cut ∙ cut_here text at c inside is)
