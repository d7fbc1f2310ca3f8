-- An item is cut at its first `=`.
use Rattle.std.proofs.Common.{◌≡◌, ◌≢◌, ℕ, ◌+◌, ◌<◌, true, false, List, ◌∷◌, length, get_or, take, drop, refl, sym, ap, ◌∙◌, subst, arith}
use Rattle.std.proofs.Common.{length-append}
use Rattle.std.proofs.lemmas.List.{get_or_at}
use Rattle.std.specs.Str.Parse.{digits_value}
use Rattle.adapt_bytes.specs.Numeral.{Writes}
use Rattle.adapt_bytes.specs.Text.{is_token_byte, IsToken, Lacks}
use Rattle.adapt_bytes.proofs.Cuts.{cut_at, first_cut}
use Rattle.encapsulated.specs.Grammar.{IsItem}

-- the byte = may not stand in a token
eq_no_token : is_token_byte 61 ≡ false
unfolding is_token_byte
eq_no_token = refl

-- false and true are different
pub false_true : false ≡ true → ⊥
false_true e = cc

-- no byte of a token is =
pub no_eq : (name : List ℕ) → IsToken name → Lacks 61 name
no_eq name token k inside is = false_true (sym eq_no_token ∙ ap is_token_byte (sym is) ∙ token.1 k 0 inside)

-- before its first = an item has a token, and after it the digits of its offset
pub item_cut : (text name : List ℕ) (offset at : ℕ) → IsItem text name offset → at < length text → get_or text at 0 ≡ 61
    → ((k : ℕ) → k < at → get_or text k 0 ≢ 61) → IsToken (take at text) × Writes 10 (drop (at + 1) text) offset
item_cut text name offset at item inside is before =
    let cut = cut_at 61 text name item.digits at (no_eq name item.token) item.text_is inside is before in
    (subst IsToken cut.0 item.token, subst (λ d. Writes 10 d offset) cut.1 item.number)

-- a text without = is no item
pub no_item : (text name : List ℕ) (offset : ℕ) → Lacks 61 text → IsItem text name offset → ⊥
no_item text name offset lacks item =
    let len = ap length item.text_is in
    lacks (length name) (omega (arith, length-append name (61 ∷ item.digits)))
    (ap (λ t. get_or t (length name) 0) item.text_is ∙ get_or_at name 61 item.digits 0 (length name) refl)

-- a text is one item
pub item_unique : (text n m : List ℕ) (o p : ℕ) → IsItem text n o → IsItem text m p → (n ≡ m) × (o ≡ p)
item_unique text n m o p x y =
    let same = first_cut 61 n m x.digits y.digits (no_eq n x.token) (no_eq m y.token) (sym x.text_is ∙ y.text_is) in
    (same.0, sym x.number.value ∙ ap (digits_value 10) same.1 ∙ y.number.value)
