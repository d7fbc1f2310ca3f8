-- A text is cut at its last byte of a value in one way.
use Rattle.std.proofs.Common.{◌≡◌, ◌≢◌, ℕ, ◌+◌, ◌<◌, ◌≤◌, List, [], ◌∷◌, ◌++◌, length, get_or, take, drop, refl, sym, ◌∙◌, arith, inl, inr}
use Rattle.std.proofs.Common.{subst, ◌-◌, get_or-take}
use Rattle.std.proofs.lemmas.Grind.{common_steps}
use Rattle.adapt_bytes.proofs.Cuts.{cut_here}
use Rattle.adapt_bytes.specs.Text.{Lacks}
use Rattle.adapt_bytes.proofs.Cuts.{Lacks-tail}
use Rattle.options_book.specs.Extension.{IsLastSegment, IsExtension}

-- a text that lacks a byte isn't cut by it
pub not_cut : (c : ℕ) (front x : List ℕ) → Lacks c (front ++ c ∷ x) → ⊥
not_cut c [] x lacks = lacks 0 (omega arith) refl
not_cut c (b ∷ front) x lacks = not_cut c front x (Lacks-tail c b (front ++ c ∷ x) lacks)

-- cuts of one text at the last byte of a value leave the same bytes after it
pub last_cut : (c : ℕ) (a b x y : List ℕ) → Lacks c x → Lacks c y → a ++ c ∷ x ≡ b ++ c ∷ y → x ≡ y
last_cut c [] [] x y nx ny e = cc
last_cut c [] (b ∷ behind) x y nx ny e =
    let same : x ≡ behind ++ c ∷ y = cc in
    absurd (not_cut c behind y (subst (λ t. Lacks c t) same nx))
last_cut c (a ∷ front) [] x y nx ny e =
    let same : y ≡ front ++ c ∷ x = cc in
    absurd (not_cut c front x (subst (λ t. Lacks c t) same ny))
last_cut c (a ∷ front) (b ∷ behind) x y nx ny e =
    let tails : front ++ c ∷ x ≡ behind ++ c ∷ y = cc in
    last_cut c front behind x y nx ny tails

-- a path has one last segment
pub one_segment : (path s t : List ℕ) → IsLastSegment path s → IsLastSegment path t → s ≡ t
one_segment path s t a b =
    elim a.last [
      | inl whole ↦ elim b.last [
        | inl same ↦ sym whole ∙ same
        | inr cut ↦ absurd (not_cut 47 cut.0 t (subst (λ x. Lacks 47 x) (sym whole ∙ cut.1) a.no_slash))
      ]
      | inr cut ↦ elim b.last [
        | inl same ↦ absurd (not_cut 47 cut.0 s (subst (λ x. Lacks 47 x) (sym same ∙ cut.1) b.no_slash))
        | inr other ↦ last_cut 47 cut.0 other.0 s t a.no_slash b.no_slash (sym cut.1 ∙ other.1)
      ]
    ]

-- a path whose last segment has no dot has no extension
pub no_extension : (path segment : List ℕ) → IsLastSegment path segment → Lacks 46 segment → (found : List ℕ) → IsExtension path found → ⊥
no_extension path segment is_last lacks found e =
    not_cut 46 e.front found (subst (λ x. Lacks 46 x) (one_segment path segment e.segment is_last e.is_last ∙ e.cut) lacks)

-- the text after the last byte of a prefix, where no such byte comes later
pub cut_behind : (text front : List ℕ) (byte : ℕ) → length front ≤ length text → front ≡ take (length front) text → 1 ≤ length front
    → get_or front (length front - 1) 0 ≡ byte → ((k : ℕ) → length front ≤ k → k < length text → get_or text k 0 ≢ byte)
    → (x : List ℕ) × (text ≡ x ++ byte ∷ take (length text - length front) (drop (length front) text))
    × Lacks byte (take (length text - length front) (drop (length front) text))
cut_behind text front byte within same some here none =
    let whole : take (length text - length front) (drop (length front) text) ≡ drop (length front) text = grind (arith, common_steps) in
    let at : get_or text (length front - 1) 0 ≡ byte = grind (arith, common_steps, get_or-take) in
    let cut = cut_here text (length front - 1) byte (omega arith) at in
    let next : length front - 1 + 1 ≡ length front = omega arith in
    let cut2 : text ≡ take (length front - 1) text ++ byte ∷ drop (length front) text = rw next at cut in (
      take (length front - 1) text,
      rw whole cut2,
      rw whole (λ k inside is.
          none (length front + k) (omega arith) (grind (arith, common_steps)) (grind (arith, common_steps))),
    )
