-- Values without blanks at their ends, in the words of `httparse` and of `adapt_bytes`.
use Rattle.std.proofs.Common.{◌≡◌, ℕ, ◌+◌, ◌<◌, ◌↔◌, Bool, true, List, [], ◌∷◌, length, get_or, drop, reverse, refl, sym, ap, ◌∙◌, subst}
use Rattle.std.proofs.Common.{inl, inr, bytes_eq}
use Rattle.std.proofs.lemmas.Slice.Eq.{bytes_eq-Decides}
use Rattle.std.specs.List.{AllByRecursion}
use Rattle.std.proofs.lemmas.Bool.{cases_Bool}
use Rattle.std.proofs.lemmas.List.{reverse-reverse, drop_more}
use Rattle.adapt_bytes.specs.Text.{is_token_byte, IsToken, skip_blanks, trim}
use Rattle.httparse.specs.Grammar.{is_token_byte as is_name_byte, IsToken as IsFieldName, is_ows, skip_ows, trim_ows}
use Rattle.adapt_bytes.specs.Fields.{FieldList, field_at}
use Rattle.icap_head.specs.Written.{IsFieldPair}
use Rattle.icap_head.proofs.Held.{trimmed_front, trimmed_back, skip_yes, skip_off}

-- a byte of a field's name and a byte of a token are the same
same_byte : (b : ℕ) → is_name_byte b ≡ is_token_byte b
unfolding is_name_byte is_token_byte
same_byte b = refl

-- a field's name is a token
pub name_token : (name : List ℕ) → IsFieldName name → IsToken name
name_token name h = (h.0, λ k d inside. sym (same_byte (get_or name k d)) ∙ h.1 k d inside)

-- a token is a field's name
pub token_name : (name : List ℕ) → IsToken name → IsFieldName name
token_name name h = (h.0, λ k d inside. same_byte (get_or name k d) ∙ h.1 k d inside)

-- blanks are skipped as the parser skips white space
same_skip : (text : List ℕ) → skip_blanks text ≡ skip_ows text
same_skip [] = refl
same_skip (b ∷ text) = elim (cases_Bool (is_ows b)) [
  | inl is ↦ (let e : skip_blanks (b ∷ text) ≡ skip_blanks text = rw is refl in e) ∙ same_skip text ∙ sym (skip_yes b text is)
  | inr off ↦ (let e : skip_blanks (b ∷ text) ≡ b ∷ text = rw off refl in e) ∙ sym (skip_off b text off)
]

-- a text is trimmed as the parser trims it
same_trim : (text : List ℕ) → trim text ≡ trim_ows text
unfolding trim trim_ows
same_trim text = ap (λ t. reverse (skip_blanks (reverse t))) (same_skip text) ∙ ap reverse (same_skip (reverse (skip_ows text)))

-- a value without blanks at its ends is what the parser trims it to
whole : (v : List ℕ) → skip_ows v ≡ v → skip_ows (reverse v) ≡ reverse v → trim_ows v ≡ v
unfolding trim_ows
whole v front back = rw (front, back, reverse-reverse)

-- a value without blanks at its ends is trimmed to itself
pub trimmed_is : (value : List ℕ) → skip_ows value ≡ value → skip_ows (reverse value) ≡ reverse value → trim value ≡ value
trimmed_is value front back = same_trim value ∙ whole value front back

-- a value that is trimmed to itself has no blank at either end
pub is_trimmed : (value : List ℕ) → trim value ≡ value → (skip_ows value ≡ value) × (skip_ows (reverse value) ≡ reverse value)
is_trimmed value e =
    let same : trim_ows value ≡ value = sym (same_trim value) ∙ e in
    (subst (λ v. skip_ows v ≡ v) same (trimmed_front value), subst (λ v. skip_ows (reverse v) ≡ reverse v) same (trimmed_back value))

-- a comparison of two texts says true where they are the same and nowhere else
pub compared : (a b : List ℕ) (same : Bool) → same ≡ bytes_eq a b → (same ≡ true → a ≡ b) × (a ≡ b → same ≡ true)
compared a b same e = (λ is. (bytes_eq-Decides a b).0 (sym e ∙ is), λ is. e ∙ (bytes_eq-Decides a b).1 is)

-- the fields from one on are writable where that one is and those after it are
pub all_from : (fields : FieldList) (at : ℕ) → at < length fields
    → AllByRecursion IsFieldPair (drop at fields) ↔ (IsFieldPair (field_at fields at) × AllByRecursion IsFieldPair (drop (at + 1) fields))
all_from fields at inside =
    let e = drop_more fields at ([], []) inside in
    (λ h. subst (AllByRecursion IsFieldPair) e h, λ h. subst (AllByRecursion IsFieldPair) (sym e) h)
