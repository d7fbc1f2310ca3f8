-- What is said of a text as it came holds of it with its folds written over.
use Rattle.std.proofs.Common.{◌≡◌, ℕ, ◌⊎◌, inl, inr, Bool, true, false, List, length, nat_lt, if◌then◌else◌, refl, subst}
use Rattle.icap_head.specs.declared.reading.HeadFault.{HeadFault}
use Rattle.icap_head.specs.declared.reading.HeadFault.TheVariants.{More, TooLong, NoMemory}
use Rattle.icap_head.specs.Heads.{StartsResponse, Response, HasPlainResponse, HasResponse, RefusesIcapHead, RefusesResponse}
use Rattle.icap_head.specs.StartLines.{StatusForm}
use Rattle.icap_head.proofs.Folding.{head_stays}

-- the want of memory isn't what is said of a head without its end
not_unended : (short : Bool) → NoMemory ≡ (if short then More else TooLong) → ⊥
not_unended true e = cc
not_unended false e = cc

-- The want of memory is no fault of a text.
no_want : (Form : List ℕ → List ℕ → Type 0) (text : List ℕ) → RefusesIcapHead Form NoMemory text → ⊥
no_want Form text (inl none) = not_unended (nat_lt (length text) 16384) none.0
no_want Form text (inr (line, behind, first, inl (inl s))) = let e = s.0 in cc
no_want Form text (inr (line, behind, first, inl (inr s))) = let e = s.0 in cc
no_want Form text (inr (line, behind, first, inr (form, inl s))) = let e = s.0 in cc
no_want Form text (inr (line, behind, first, inr (form, inr (inl s)))) = let e = s.0 in cc
no_want Form text (inr (line, behind, first, inr (form, inr (inr s)))) = not_unended (nat_lt (length text) 16384) s.0

-- Memory is wanted to keep a head without folds, so for one of the text.
pub want_stays : (text : List ℕ) (fault : HeadFault) → fault ≡ NoMemory
    → ((fault ≡ NoMemory) × ((value : Response) × (size : ℕ) × HasPlainResponse text value size)) ⊎ RefusesIcapHead StatusForm fault text
    → ((NoMemory ≡ NoMemory) × ((value : Response) × (size : ℕ) × HasResponse text value size)) ⊎ RefusesResponse NoMemory text
want_stays text fault is (inl want) =
    let value = want.1.0 in
    inl (refl, (value, want.1.1, head_stays (StartsResponse value) text value.fields want.1.1 want.1.2))
want_stays text fault is (inr other) =
    let P : HeadFault → Type 0 = λ f. RefusesIcapHead StatusForm f text in
    absurd (no_want StatusForm text (subst P is other))
