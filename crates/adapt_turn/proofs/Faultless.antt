-- What a turn leaves without a fault.
use Rattle.std.proofs.Common.{◌≡◌, ◌↔◌, ◌⊎◌, Bool, true, false, inl, inr, refl, ◌∙◌, sym}

-- it wasn't marked before, for then it were
pub unmarked_before : (old new : Bool) (now : Type 0) → (new ≡ true ↔ (old ≡ true) ⊎ now) → new ≡ false → old ≡ false
unmarked_before false new now same n = refl
unmarked_before true new now same n = let d : true ≡ false = sym (same.1 (inl refl)) ∙ n in absurd cc

-- nor was it in this turn
pub unmarked_now : (broken old new : Bool) (now : Type 0) → (broken ≡ true → now) → (new ≡ true ↔ (old ≡ true) ⊎ now) → new ≡ false
    → broken ≡ false
unmarked_now false old new now breaks same n = refl
unmarked_now true old new now breaks same n = let d : true ≡ false = sym (same.1 (inr (breaks refl))) ∙ n in absurd cc

-- a history that can't be closed is open
pub open_where : (closed : Bool) → (closed ≡ true → ⊥) → closed ≡ false
open_where false never = refl
open_where true never = absurd (never refl)
