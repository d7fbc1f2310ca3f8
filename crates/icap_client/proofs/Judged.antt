-- How many of the bytes that are kept were judged.
use Rattle.std.proofs.Common.{◌≡◌, ℕ, ◌≤◌, inl, inr, Bool, true, false, not, List, ◌++◌, length, refl, sym, subst, arith, length-append}
use Rattle.std.proofs.lemmas.List.{take-append-le}
use Rattle.std.proofs.Math.Seq.{take-length}
use Rattle.icap_head.specs.Heads.{RefusesResponse}
use Rattle.icap_head.specs.declared.reading.HeadFault.TheVariants.{More}
use Rattle.wire_kit.specs.Past.{Past}
use Rattle.icap_client.specs.HeadFront.{IsJudged}
use Rattle.adapt_sides.specs.Filling.{IsFilled}
use Rattle.adapt_sides.specs.declared.filling.Filled.{Filled}
use Rattle.adapt_sides.specs.declared.filling.Filled.TheVariants as filled

-- of a prefix of a head all bytes may be judged
pub all_judged : (bytes : List ℕ) → RefusesResponse More bytes → IsJudged (length bytes) bytes
all_judged bytes s = inr (subst (λ (t : List ℕ). RefusesResponse More t) (sym (take-length bytes)) s)

-- a bit whose negation is true is false
pub is_false : (b : Bool) → not b ≡ true → b ≡ false
is_false true e = cc
is_false false e = refl

-- judged bytes stay judged with more bytes after them
more_judged : (judged : ℕ) (bytes delta : List ℕ) → judged ≤ length bytes → IsJudged judged bytes → IsJudged judged (bytes ++ delta)
more_judged judged bytes delta l (inl e) = inl e
more_judged judged bytes delta l (inr s) = inr (subst (λ (t : List ℕ). RefusesResponse More t) (sym (take-append-le judged bytes delta l))
    s)

-- judged bytes are still there, and judged, if the bytes stay the same
same_judged : (judged : ℕ) (old new : List ℕ) → new ≡ old → judged ≤ length old → IsJudged judged old
    → (judged ≤ length new) × IsJudged judged new
same_judged judged old new e l h = subst (λ (t : List ℕ). (judged ≤ length t) × IsJudged judged t) (sym e) (l, h)

-- judged bytes are still there, and judged, after a read of the wire
pub filled_judged : (P Q : Past → Type 0) (old new : List ℕ) (result : Filled) (judged : ℕ) → IsFilled P Q old new result
    → judged ≤ length old → IsJudged judged old → (judged ≤ length new) × IsJudged judged new
filled_judged P Q old new filled.Bytes judged f l h =
    subst (λ (t : List ℕ). (judged ≤ length t) × IsJudged judged t) (sym f.2)
    (omega (arith, l, length-append old f.0), more_judged judged old f.0 l h)
filled_judged P Q old new filled.Ended judged f l h = same_judged judged old new f.0 l h
filled_judged P Q old new filled.Wait judged f l h = same_judged judged old new f.0 l h
filled_judged P Q old new filled.Failed judged f l h = same_judged judged old new f.0 l h
filled_judged P Q old new filled.NoMemory judged f l h = same_judged judged old new f.0 l h
