-- A status is three digits and what comes after them.
use Rattle.std.proofs.Common.{◌≡◌, ℕ, ◌<◌, ◌≤◌, ◌⊎◌, inl, inr, IsTrue, List, [], ◌∷◌, ◌++◌, length, get_or, take, drop, refl, sym, ap, ◌∙◌}
use Rattle.std.proofs.Common.{subst, arith, All}
use Rattle.std.proofs.lemmas.List.{take_at, drop_at}
use Rattle.std.proofs.lemmas.List.Elements.{All-cons, All-nil}
use Rattle.std.specs.Char.{is_ascii_digit}
use Rattle.std.specs.Str.Parse.{digits_value}
use Rattle.adapt_bytes.specs.Text.{Lacks}
use Rattle.adapt_bytes.proofs.Cuts.{first_cut}
use Rattle.icap_head.specs.StartLines.{AreDigits, IsStatus, IsStatusLine}
use Rattle.icap_head.proofs.Lacking.{lacks_cut}
use Rattle.icap_head.proofs.Words.{version_lacks}

-- three bytes that are digits are a text of digits
all_three : (a b c : ℕ) → AreDigits a b c → All (λ b. IsTrue (is_ascii_digit b)) (a ∷ b ∷ c ∷ [])
all_three a b c d =
    let P : ℕ → Type 0 = λ b. IsTrue (is_ascii_digit b) in
    All-cons P a (b ∷ c ∷ []) d.0 (All-cons P b (c ∷ []) d.1 (All-cons P c [] d.2 (All-nil P)))

-- a text of three digits is the status that they write, without a phrase
pub status_alone : (t : List ℕ) (n : ℕ) → length t ≡ 3 → AreDigits (get_or t 0 0) (get_or t 1 0) (get_or t 2 0)
    → n ≡ digits_value 10 (get_or t 0 0 ∷ get_or t 1 0 ∷ get_or t 2 0 ∷ []) → IsStatus t n []
status_alone (a ∷ b ∷ c ∷ []) n l d v =
    record {
      digits = a ∷ b ∷ c ∷ [];
      behind = [];
      text_is = refl;
      three = refl;
      all_digits = all_three a b c d;
      value = sym v;
      phrase_is = inl (refl, refl);
    }
status_alone t n l d v = absurd (omega arith)

-- three digits and a space are the status that they write, and what comes after is its phrase
pub status_with : (t : List ℕ) (n : ℕ) → 4 ≤ length t → get_or t 3 0 ≡ 32 → AreDigits (get_or t 0 0) (get_or t 1 0) (get_or t 2 0)
    → n ≡ digits_value 10 (get_or t 0 0 ∷ get_or t 1 0 ∷ get_or t 2 0 ∷ []) → IsStatus t n (drop 4 t)
status_with (a ∷ b ∷ c ∷ s ∷ phrase) n l e d v =
    record {
      digits = a ∷ b ∷ c ∷ [];
      behind = s ∷ phrase;
      text_is = refl;
      three = refl;
      all_digits = all_three a b c d;
      value = sym v;
      phrase_is = inr (ap (λ x. x ∷ phrase) e);
    }
status_with t n l e d v = absurd (omega arith)

-- what stands where in a text that is a status
abbrev pub StatusPlaces : List ℕ → Type 0
StatusPlaces t = AreDigits (get_or t 0 0) (get_or t 1 0) (get_or t 2 0) × ((length t ≡ 3) ⊎ ((3 < length t) × (get_or t 3 0 ≡ 32)))

-- three digits, and nothing or a space and a phrase, have the bytes of a status at its places
places : (ds behind phrase : List ℕ) → length ds ≡ 3 → All (λ b. IsTrue (is_ascii_digit b)) ds
    → ((behind ≡ []) × (phrase ≡ [])) ⊎ (behind ≡ 32 ∷ phrase) → StatusPlaces (ds ++ behind)
places (a ∷ b ∷ c ∷ []) behind phrase l d (inl e) =
    ((d 0 0 (omega arith), d 1 0 (omega arith), d 2 0 (omega arith)), inl (let n = ap length e.0 in omega (arith, n)))
places (a ∷ b ∷ c ∷ []) behind phrase l d (inr e) = (
  (d 0 0 (omega arith), d 1 0 (omega arith), d 2 0 (omega arith)),
  inr (let n = ap length e in omega (arith, n), ap (λ t. get_or t 0 0) e),
)
places ds behind phrase l d e = absurd (omega arith)

-- a status begins with three digits, and has a space after them or ends there
pub status_places : (t : List ℕ) (n : ℕ) (phrase : List ℕ) → IsStatus t n phrase → StatusPlaces t
status_places t n phrase h = subst StatusPlaces (sym h.text_is) (places h.digits h.behind phrase h.three h.all_digits h.phrase_is)

-- what stands after the digits of a status is of one phrase only
same_phrase : (x y p q : List ℕ) → x ≡ y → ((x ≡ []) × (p ≡ [])) ⊎ (x ≡ 32 ∷ p) → ((y ≡ []) × (q ≡ [])) ⊎ (y ≡ 32 ∷ q) → p ≡ q
same_phrase x y p q e (inl h) (inl g) = h.1 ∙ sym g.1
same_phrase x y p q e (inl h) (inr g) = let wrong : [] ≡ 32 ∷ q = sym h.0 ∙ e ∙ g in absurd (cc)
same_phrase x y p q e (inr h) (inl g) = let wrong : [] ≡ 32 ∷ p = sym g.0 ∙ sym e ∙ h in absurd (cc)
same_phrase x y p q e (inr h) (inr g) = ap (drop 1) (sym h ∙ e ∙ g)

-- a text has one status and one phrase only
pub status_unique : (t : List ℕ) (n m : ℕ) (p q : List ℕ) → IsStatus t n p → IsStatus t m q → (n ≡ m) × (p ≡ q)
status_unique t n m p q h g =
    let digits : h.digits ≡ g.digits = sym (take_at h.digits h.behind 3 h.three) ∙ ap (take 3) (sym h.text_is ∙ g.text_is)
    ∙ take_at g.digits g.behind 3 g.three in
    let behind : h.behind ≡ g.behind = sym (drop_at h.digits h.behind 3 h.three) ∙ ap (drop 3) (sym h.text_is ∙ g.text_is)
    ∙ drop_at g.digits g.behind 3 g.three in
    (sym h.value ∙ ap (digits_value 10) digits ∙ g.value, same_phrase h.behind g.behind p q behind h.phrase_is g.phrase_is)

-- the words of a status line are those that were cut off
pub status_words : (line a rest : List ℕ) (n : ℕ) (p v : List ℕ) → line ≡ a ++ 32 ∷ rest → Lacks 32 a → (h : IsStatusLine line n p v)
    → (a ≡ v) × (rest ≡ h.text)
status_words line a rest n p v cut lacks h = first_cut 32 a v rest h.text lacks (version_lacks v h.version_is) (sym cut ∙ h.line_is)

-- a line without a space is no status line
pub no_status_word : (line : List ℕ) (n : ℕ) (p v : List ℕ) → Lacks 32 line → IsStatusLine line n p v → ⊥
no_status_word line n p v lacks h = lacks_cut 32 line v h.text lacks h.line_is

-- a status line has one status, one phrase and one version only
pub status_line_unique : (line : List ℕ) (n m : ℕ) (p q v w : List ℕ) → IsStatusLine line n p v → IsStatusLine line m q w
    → (n ≡ m) × (p ≡ q) × (v ≡ w)
status_line_unique line n m p q v w h g =
    let words = status_words line v h.text m q w h.line_is (version_lacks v h.version_is) g in
    let same = status_unique g.text n m p q (subst (λ t. IsStatus t n p) words.1 h.status_is) g.status_is in
    (same.0, same.1, words.0)
