-- Texts that are put into their room one after the other.
use Rattle.std.proofs.Common.{ℕ, List, ◌++◌, sym, ap, ◌∙◌, subst, arith, append_assoc, length-append}
use Rattle.adapt_bytes.specs.Room.{Written, Puts}
use Rattle.http_side.specs.Forward.{field_lines}
use Rattle.http_side.proofs.ForwardLemmas.{lines-append}

-- one text after another
pub puts_both : {a b c : Written} {x y : List ℕ} → Puts a b x → Puts b c y → Puts a c (x ++ y)
puts_both {a} {b} {c} {x} {y} p q = record {
  text = q.text ∙ ap (λ t. t ++ y) p.text ∙ append_assoc a.text x y;
  left = omega (arith, length-append x y);
}

-- the lines of some fields, put after those of others, are the lines of both lists
pub puts_lines : {a b c : Written} (x y : List (List ℕ × List ℕ)) → Puts a b (field_lines x) → Puts b c (field_lines y)
    → Puts a c (field_lines (x ++ y))
puts_lines {a} {b} {c} x y p q = let P : List ℕ → Type 0 = λ t. Puts a c t in subst P (sym (lines-append x y)) (puts_both p q)
