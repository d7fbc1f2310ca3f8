-- The order of texts by their bytes.
use Rattle.std.proofs.Common.{◌≡◌, ℕ, List, [], ◌∷◌, ◌++◌, true, false, IsTrue, Ordering, Less, Equal, Greater, nat_cmp, is_lt, codes, refl}
use Rattle.std.proofs.Common.{sym, ap, ◌∙◌, subst}
use Rattle.std.proofs.lemmas.Bool.{false≢true}
use Rattle.std.proofs.lemmas.Cmp.{nat_cmp_total, nat_list_cmp_total, tied_itself}
use Rattle.std.proofs.lemmas.Map.Lookups.{exact_bytes}
use Rattle.std.specs.Cmp.Lexicographic.{slice_cmp}
use Rattle.std.specs.Ordering.{ordering_reverse}
use Rattle.proxy_config.specs.Order.{comes_before, nested}

-- an order that is below equal is less
less_if_lt : (o : Ordering) → is_lt o ≡ true → o ≡ Less
less_if_lt Less h = refl
less_if_lt Equal h = absurd (false≢true h)
less_if_lt Greater h = absurd (false≢true h)

-- a text that comes before another is less than it
pub less : (a b : List ℕ) → IsTrue (comes_before a b) → slice_cmp nat_cmp a b ≡ Less
less a b h = less_if_lt (slice_cmp nat_cmp a b) h

-- a text that is less than another comes before it
pub before : (a b : List ℕ) → slice_cmp nat_cmp a b ≡ Less → IsTrue (comes_before a b)
before a b h = ap is_lt h

-- no text comes before itself
pub not_before_itself : (a : List ℕ) → IsTrue (comes_before a a) → ⊥
not_before_itself a h = false≢true (sym (ap is_lt (tied_itself nat_list_cmp_total a)) ∙ h)

-- a text that comes before one comes before all that come after that
pub goes_on : (a b c : List ℕ) → IsTrue (comes_before a b) → IsTrue (comes_before b c) → IsTrue (comes_before a c)
goes_on a b c h k = before a c (nat_list_cmp_total.trans a b c (less a b h) (less b c k))

-- of two texts only one comes before the other
pub not_both : (a b : List ℕ) → IsTrue (comes_before a b) → IsTrue (comes_before b a) → ⊥
not_both a b h k = not_before_itself a (goes_on a b a h k)

-- a text before a second one comes before a third that isn't before the second, whatever the order of those two
by_order : (a b c : List ℕ) (o : Ordering) → slice_cmp nat_cmp b c ≡ o → IsTrue (comes_before a b) → comes_before c b ≡ false
    → IsTrue (comes_before a c)
by_order a b c Less e h k = goes_on a b c h (before b c e)
by_order a b c Equal e h k = let P : List ℕ → Type 0 = λ t. IsTrue (comes_before a t) in subst P (exact_bytes b c e) h
by_order a b c Greater e h k =
    absurd (false≢true (sym k ∙ before c b (nat_list_cmp_total.antisymm c b ∙ ap ordering_reverse e)))

-- what comes before a text comes before each text that doesn't come before that
pub before_later : (a b c : List ℕ) → IsTrue (comes_before a b) → comes_before c b ≡ false → IsTrue (comes_before a c)
before_later a b c h k = by_order a b c (slice_cmp nat_cmp b c) refl h k

-- texts of which neither comes before the other, however they compare, are one
in_neither : (a b : List ℕ) (o : Ordering) → slice_cmp nat_cmp a b ≡ o → (IsTrue (comes_before a b) → ⊥) → (IsTrue (comes_before b a) → ⊥)
    → a ≡ b
in_neither a b Less e h k = absurd (h (before a b e))
in_neither a b Equal e h k = exact_bytes a b e
in_neither a b Greater e h k = absurd (k (before b a (nat_list_cmp_total.antisymm b a ∙ ap ordering_reverse e)))

-- texts of which neither comes before the other are one
pub neither_before : (a b : List ℕ) → (IsTrue (comes_before a b) → ⊥) → (IsTrue (comes_before b a) → ⊥) → a ≡ b
neither_before a b h k = in_neither a b (slice_cmp nat_cmp a b) refl h k

-- texts after the same prefix are in the order that they have alone
behind : (front a b : List ℕ) → slice_cmp nat_cmp (front ++ a) (front ++ b) ≡ slice_cmp nat_cmp a b
behind [] a b = refl
behind (x ∷ front) a b = rw (tied_itself nat_cmp_total x) (behind front a b)

-- keys of one table are in the order of their keys in it
pub nested_order : (table a b : List ℕ) → comes_before (nested table a) (nested table b) ≡ comes_before a b
nested_order table a b = ap is_lt (behind table (codes "." ++ a) (codes "." ++ b) ∙ behind (codes ".") a b)
