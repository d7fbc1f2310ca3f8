-- Texts that are written part by part.
use Rattle.std.proofs.Common.{◌≡◌, ℕ, suc, ◌+◌, ◌-◌, ◌<◌, List, ◌++◌, Result, Ok, Err, OnOk, is_ok, if◌then◌else◌, take, drop}
use Rattle.std.proofs.Common.{arith, append_assoc, sym, ap, ◌∙◌}
use Rattle.service_probe.specs.Messages.{line, lines, chunk, chunks_of}

-- after a step one less is left
one_less : (n i : ℕ) → i < n → n - i ≡ suc (n - (i + 1))
one_less n i l = omega (arith, l)

-- what is left, once a part more is written
pub grown : (old new part rest left : List ℕ) → new ≡ old ++ part → left ≡ part ++ rest → new ++ rest ≡ old ++ left
grown old new part rest left n e = ap (λ (l : List ℕ). l ++ rest) n ∙ append_assoc old part rest ∙ ap (λ (l : List ℕ). old ++ l) (sym e)

-- the lines that are left are one, and those after it
pub lines_left : (n i : ℕ) → i < n → lines (n - i) ≡ line ++ lines (n - (i + 1))
lines_left n i l = ap lines (one_less n i l)

-- the chunks that are left of a body are one, and those of what stands after it
pub chunks_left : (n i : ℕ) (body : List ℕ) → i < n
    → chunks_of (n - i) body ≡ chunk (take 4096 body) ++ chunks_of (n - (i + 1)) (drop 4096 body)
chunks_left n i body l = ap (λ k. chunks_of k body) (one_less n i l)

-- what is added in two parts is added
pub two_parts : {A B : Type 0} (r : Result A B) (new mid old x y : List ℕ) → mid ≡ old ++ x
    → OnOk r (new ≡ mid ++ y) → OnOk r (new ≡ old ++ (x ++ y))
two_parts (Ok a) new mid old x y e h = h ∙ ap (λ (l : List ℕ). l ++ y) e ∙ append_assoc old x y
two_parts (Err a) new mid old x y e h = h

-- what is added in three parts is added
pub three : {A B : Type 0} (r : Result A B) (old one two new x y z : List ℕ) → one ≡ old ++ x → two ≡ one ++ y
    → new ≡ (if is_ok r then two ++ z else two)
    → OnOk r (new ≡ old ++ (x ++ (y ++ z)))
three (Ok a) old one two new x y z first second h =
    h ∙ ap (λ (l : List ℕ). l ++ z) (second ∙ ap (λ (l : List ℕ). l ++ y) first) ∙ append_assoc (old ++ x) y z ∙ append_assoc old x (y ++ z)
three (Err a) old one two new x y z first second h = tt
