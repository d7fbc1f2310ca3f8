-- Two lists side by side.
use Rattle.std.proofs.Common.{◌≡◌, ℕ, zero, suc, ◌<◌, List, [], ◌∷◌, ◌++◌, length, get_or, refl, ap₂, arith}
use Rattle.std.specs.List.{AllZip}

-- two lists side by side stay so with one pair more at their ends
pub AllZip-more : {A B : Type 0} (R : A → B → Type 0) (xs : List A) (ys : List B) (x : A) (y : B) → AllZip R xs ys → R x y
    → AllZip R (xs ++ x ∷ []) (ys ++ y ∷ [])
AllZip-more R [] [] x y h r = (r, tt)
AllZip-more R [] (b ∷ ys) x y h r = absurd h
AllZip-more R (a ∷ xs) [] x y h r = absurd h
AllZip-more R (a ∷ xs) (b ∷ ys) x y h r = (h.0, AllZip-more R xs ys x y h.1 r)

-- of two lists side by side, the first one's element at each place has a partner
pub AllZip-at : {A B : Type 0} (R : A → B → Type 0) (xs : List A) (ys : List B) (k : ℕ) (d : A) → AllZip R xs ys → k < length xs
    → (y : B) × R (get_or xs k d) y
AllZip-at R [] ys k d h inside = absurd (omega arith)
AllZip-at R (a ∷ xs) [] k d h inside = absurd h
AllZip-at R (a ∷ xs) (b ∷ ys) zero d h inside = (b, h.0)
AllZip-at R (a ∷ xs) (b ∷ ys) (suc k) d h inside = AllZip-at R xs ys k d h.1 (omega arith)

-- where each has one partner at most, a list has one list beside it at most
pub AllZip-unique : {A B : Type 0} (R : A → B → Type 0) → ((x : A) (y z : B) → R x y → R x z → y ≡ z) → (xs : List A) (ys zs : List B)
    → AllZip R xs ys → AllZip R xs zs → ys ≡ zs
AllZip-unique R one [] [] [] h g = refl
AllZip-unique R one [] [] (c ∷ zs) h g = absurd g
AllZip-unique R one [] (b ∷ ys) zs h g = absurd h
AllZip-unique R one (a ∷ xs) [] zs h g = absurd h
AllZip-unique R one (a ∷ xs) (b ∷ ys) [] h g = absurd g
AllZip-unique R one (a ∷ xs) (b ∷ ys) (c ∷ zs) h g = ap₂ (λ x l. x ∷ l) (one a b c h.0 g.0) (AllZip-unique R one xs ys zs h.1 g.1)
