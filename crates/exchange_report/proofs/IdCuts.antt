-- A text is cut at its first hyphen in one way, so it spells one id at most.
use Rattle.std.proofs.Common.{◌≡◌, ◌≢◌, ℕ, ◌<◌, ◌^◌, List, [], ◌∷◌, ◌++◌, All, arith, refl, sym, ap, ◌∙◌, subst}
use Rattle.std.specs.Char.{digit_value}
use Rattle.std.specs.Str.Parse.{AllDigits}
use Rattle.std.proofs.lemmas.List.Elements.{All-cons, All-nil, All-head, All-tail}
use Rattle.adapt_bytes.specs.Numeral.{Writes}
use Rattle.exchange_report.specs.Live.{SpellsNumber, SpellsId}
use Rattle.exchange_report.specs.declared.exchange_id.ExchangeId.{ExchangeId}
use Rattle.exchange_report.proofs.Apart.{first, cons}

-- no hyphen stands in the text
abbrev pub HasNoHyphen : List ℕ → Type 0
HasNoHyphen text = All (λ b. b ≢ 45) text

-- a digit is no hyphen
not_hyphen : (d : ℕ) → digit_value d < 10 → d ≢ 45
not_hyphen d l e = let v = ap digit_value e in absurd (omega arith)

-- digits have no hyphen
digits_free : (digits : List ℕ) → AllDigits 10 digits → HasNoHyphen digits
digits_free [] h = All-nil (λ b. b ≢ 45)
digits_free (d ∷ ds) h = All-cons (λ b. b ≢ 45) d ds (not_hyphen d h.0) (digits_free ds h.1)

-- a text that spells a number has no hyphen
number_free : (digits : List ℕ) (n : ℕ) → SpellsNumber digits n → HasNoHyphen digits
number_free digits n s = digits_free digits s.writes.digits.1

-- what stands before the first hyphen is one text, and what follows it is one too
same_cut : (a b xs ys : List ℕ) → HasNoHyphen a → HasNoHyphen b → a ++ 45 ∷ xs ≡ b ++ 45 ∷ ys → (a ≡ b) × (xs ≡ ys)
same_cut [] [] xs ys h i e = (refl, (first 45 45 xs ys e).1)
same_cut [] (c ∷ b) xs ys h i e = absurd (All-head (λ d. d ≢ 45) c b i (sym (first 45 c xs (b ++ 45 ∷ ys) e).0))
same_cut (c ∷ a) [] xs ys h i e = absurd (All-head (λ d. d ≢ 45) c a h (first c 45 (a ++ 45 ∷ xs) ys e).0)
same_cut (c ∷ a) (d ∷ b) xs ys h i e =
    let heads = first c d (a ++ 45 ∷ xs) (b ++ 45 ∷ ys) e in
    let rest = same_cut a b xs ys (All-tail (λ d. d ≢ 45) c a h) (All-tail (λ d. d ≢ 45) d b i) heads.1 in
    (cons c d a b heads.0 rest.0, rest.1)

-- a text with a hyphen in its midst isn't one without hyphens
has_hyphen : (digits rest : List ℕ) → HasNoHyphen (digits ++ 45 ∷ rest) → ⊥
has_hyphen [] rest h = All-head (λ b. b ≢ 45) 45 rest h refl
has_hyphen (d ∷ ds) rest h = has_hyphen ds rest (All-tail (λ b. b ≢ 45) d (ds ++ 45 ∷ rest) h)

-- a text with no hyphen isn't cut
pub not_cut : (text digits rest : List ℕ) → HasNoHyphen text → text ≡ digits ++ 45 ∷ rest → ⊥
not_cut text digits rest h e = has_hyphen digits rest (subst (λ (t : List ℕ). HasNoHyphen t) e h)

-- where no number stands before the first hyphen, the text doesn't begin with a number and a hyphen
pub no_part : (text before after : List ℕ) → text ≡ before ++ 45 ∷ after → HasNoHyphen before
    → ((n : ℕ) → n < 2 ^ 64 → Writes 10 before n → ⊥)
    → (digits rest : List ℕ) (n : ℕ) → text ≡ digits ++ 45 ∷ rest → SpellsNumber digits n → ⊥
no_part text before after is free none digits rest n e s =
    let same = same_cut before digits after rest free (number_free digits n s) (sym is ∙ e) in
    none n s.fits (subst (λ (t : List ℕ). Writes 10 t n) (sym same.0) s.writes)

-- after the first number of an id the two others stand
after_first : (text digits rest : List ℕ) (n : ℕ) → text ≡ digits ++ 45 ∷ rest → SpellsNumber digits n
    → (id : ExchangeId) → (h : SpellsId text id) → rest ≡ h.key_digits ++ 45 ∷ h.number_digits
after_first text digits rest n is s id h =
    (same_cut digits h.thread_digits rest (h.key_digits ++ 45 ∷ h.number_digits) (number_free digits n s)
    (number_free h.thread_digits id.thread h.thread) (sym is ∙ h.text_is)).1

-- where no number and hyphen follow the first number, the text is no id
pub no_key : (text digits rest : List ℕ) (n : ℕ) → text ≡ digits ++ 45 ∷ rest → SpellsNumber digits n
    → ((key after : List ℕ) (m : ℕ) → rest ≡ key ++ 45 ∷ after → SpellsNumber key m → ⊥)
    → (id : ExchangeId) → SpellsId text id → ⊥
no_key text digits rest n is s none id h = none h.key_digits h.number_digits id.key (after_first text digits rest n is s id h) h.key

-- where no number follows the second one, the text is no id
pub no_number : (text digits rest key after : List ℕ) (n m : ℕ) → text ≡ digits ++ 45 ∷ rest → SpellsNumber digits n
    → rest ≡ key ++ 45 ∷ after → SpellsNumber key m → ((k : ℕ) → k < 2 ^ 64 → Writes 10 after k → ⊥)
    → (id : ExchangeId) → SpellsId text id → ⊥
no_number text digits rest key after n m is s then t none id h =
    let same = same_cut key h.key_digits after h.number_digits (number_free key m t) (number_free h.key_digits id.key h.key)
    (sym then ∙ after_first text digits rest n is s id h) in
    none id.number h.number.fits (subst (λ (t : List ℕ). Writes 10 t id.number) (sym same.1) h.number.writes)
