-- Texts without a byte.
use Rattle.std.proofs.Common.{◌≡◌, ℕ, zero, suc, Bool, true, false, List, [], ◌∷◌, ◌++◌, length, get_or, refl, sym, ap, ◌∙◌, arith}
use Rattle.std.proofs.Common.{length-append, eqb, not, ◌&&◌}
use Rattle.std.specs.List.{list_all}
use Rattle.std.proofs.lemmas.Bool.{eq-eqb}
use Rattle.std.proofs.lemmas.List.{get_or_at}
use Rattle.adapt_bytes.specs.Text.{is_token_byte, IsToken, Lacks}

-- false isn't true
pub false_true : false ≡ true → ⊥
false_true e = cc

-- a space is no byte of a token
space_no_token : is_token_byte 32 ≡ false
unfolding is_token_byte
space_no_token = refl

-- a text that is a token has no space
pub no_space : (name : List ℕ) → IsToken name → Lacks 32 name
no_space name token k inside is = false_true (sym space_no_token ∙ ap is_token_byte (sym is) ∙ token.1 k 0 inside)

-- an LF is no byte of a token
feed_no_token : is_token_byte 10 ≡ false
unfolding is_token_byte
feed_no_token = refl

-- a text that is a token has no LF
pub no_feed : (name : List ℕ) → IsToken name → Lacks 10 name
no_feed name token k inside is = false_true (sym feed_no_token ∙ ap is_token_byte (sym is) ∙ token.1 k 0 inside)

-- an empty text lacks each byte
pub lacks_nil : (c : ℕ) → Lacks c []
lacks_nil c k inside is = omega arith

-- a text that lacks a byte lacks it after another byte is put before it
pub lacks_cons : (c b : ℕ) (text : List ℕ) → (b ≡ c → ⊥) → Lacks c text → Lacks c (b ∷ text)
lacks_cons c b text other lacks zero inside is = other is
lacks_cons c b text other lacks (suc k) inside is = lacks k (omega arith) is

-- two texts that lack a byte lack it together
pub lacks_append : (c : ℕ) (xs ys : List ℕ) → Lacks c xs → Lacks c ys → Lacks c (xs ++ ys)
lacks_append c [] ys h g = g
lacks_append c (x ∷ xs) ys h g = lacks_cons c x (xs ++ ys) (h 0 (omega arith))
    (lacks_append c xs ys (λ k inside is. h (suc k) (omega arith) is) g)

-- bytes that the test finds different are different
pub tested : (c b : ℕ) → not (eqb b c) ≡ true → b ≡ c → ⊥
tested c b h e = let same : eqb b c ≡ true = eq-eqb b c e in false_true (sym (ap not same) ∙ h)

-- where a conjunction of two tests is true, each of the two is
both : (a b : Bool) → (a && b) ≡ true → (a ≡ true) × (b ≡ true)
both true b e = (refl, e)
both false b e = absurd (cc)

-- a text lacks a byte where each of its bytes is tested to be another
pub lacks_from : (c : ℕ) (text : List ℕ) → list_all (λ b. not (eqb b c)) text ≡ true → Lacks c text
lacks_from c [] h = lacks_nil c
lacks_from c (b ∷ text) h = let p = both _ _ h in lacks_cons c b text (tested c b p.0) (lacks_from c text p.1)

-- a text that lacks a byte isn't cut at it
pub lacks_cut : (c : ℕ) (text a x : List ℕ) → Lacks c text → text ≡ a ++ c ∷ x → ⊥
lacks_cut c text a x lacks cut =
    let len = ap length cut in
    lacks (length a) (omega (arith, length-append a (c ∷ x))) (ap (λ t. get_or t (length a) 0) cut ∙ get_or_at a c x 0 (length a) refl)
