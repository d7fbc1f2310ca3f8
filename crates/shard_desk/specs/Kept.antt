-- Connections that lie idle between exchanges, the oldest first.
use Rattle.std.specs.Prelude.{◌≡◌, ⊤, ℕ, ◌-◌, ◌<◌, ◌⊎◌, Bool, true, false, List, [], ◌∷◌, ◌++◌, drop, length, Option, Some, None, is_some}
use Rattle.std.specs.Prelude.{option_map, nat_lt, cond, slice_index_or, remove}
use Rattle.shard_desk.specs.declared.kept.Asking.{Asking}
use Rattle.shard_desk.specs.declared.kept.Asking.TheVariants.{Never, IfUnsure}

-- it may be used: it has lain idle for fewer seconds than one may, and was found quiet
abbrev pub IsFit : {C : Type 0} → (since : C → ℕ) → (quiet : C → Type 0) → (now most : ℕ) → C → Type 0
IsFit since quiet now most idle = (now - since idle < most) × quiet idle

-- it may not: it has lain idle for as long as one may, or something was heard on it
abbrev pub IsUnfit : {C : Type 0} → (since : C → ℕ) → (loud : C → Type 0) → (now most : ℕ) → C → Type 0
IsUnfit since loud now most idle = (now - since idle < most → ⊥) ⊎ loud idle

-- of these, some stayed, in their order, and the others went
abbrev pub IsSifted : {C : Type 0} → (stays goes : C → Type 0) → (old new : List C) → Type 0
IsSifted stays goes [] new = new ≡ []
IsSifted {C} stays goes (idle ∷ old) new =
    (goes idle × IsSifted stays goes old new) ⊎ (stays idle × ((rest : List C) × (new ≡ idle ∷ rest) × IsSifted stays goes old rest))

-- the one of this index goes, or all stay
abbrev pub IsSiftedAt : {C : Type 0} → (stays goes : C → Type 0) → (index : ℕ) → (old new : List C) → Type 0
IsSiftedAt {C} stays goes index old new = (idle : C) × (idle ≡ slice_index_or old index idle)
    × ((goes idle × (new ≡ remove old index)) ⊎ (stays idle × (new ≡ old)))

-- it isn't known yet whether something was heard on it, and nobody asks
abbrev pub IsUnsure : {C : Type 0} → (unsure : C → Type 0) → Asking → C → Type 0
IsUnsure unsure Never idle = unsure idle
IsUnsure unsure IfUnsure idle = ⊥

-- The one of this index is taken out, where it leads there and is fit; or it goes, where it leads there and isn't; or it stays.
abbrev pub IsPassed : {C : Type 0} → (leads fit unfit unsure : C → Type 0) → (index : ℕ) → (old new : List C) → Option C → Type 0
IsPassed leads fit unfit unsure index old new (Some idle) =
    (idle ≡ slice_index_or old index idle) × leads idle × fit idle × (new ≡ remove old index)
IsPassed {C} leads fit unfit unsure index old new None = (idle : C) × (idle ≡ slice_index_or old index idle)
    × ((leads idle × unfit idle × (new ≡ remove old index)) ⊎ (((leads idle → ⊥) ⊎ unsure idle) × (new ≡ old)))

-- The youngest fit one of those that lead there is taken; younger ones that lead there and aren't fit went. All others stay. None is taken
-- where none that leads there is known to be fit.
abbrev pub IsTakenBy : {C : Type 0} → (leads fit unfit unsure : C → Type 0) → (old new : List C) → Option C → Type 0
IsTakenBy leads fit unfit unsure old new None = IsSifted (λ idle. (leads idle → ⊥) ⊎ unsure idle) (λ idle. leads idle × unfit idle) old new
IsTakenBy {C} leads fit unfit unsure old new (Some taken) =
    leads taken × fit taken × ((older : List C) × (younger : List C) × (rest : List C)
    × (old ≡ older ++ taken ∷ younger) × (new ≡ older ++ rest)
    × IsSifted (λ idle. (leads idle → ⊥) ⊎ unsure idle) (λ idle. leads idle × unfit idle) younger rest)

-- So is the youngest that is known to be fit; where there is none, the youngest of the others that is found to be. None is taken only where
-- each was found not to be.
abbrev pub IsTaken : {C : Type 0} → (leads fit unfit unsure : C → Type 0) → (old new : List C) → Option C → Type 0
IsTaken {C} leads fit unfit unsure old new taken =
    (is_some taken ≡ true) × IsTakenBy leads fit unfit unsure old new taken
    ⊎ ((mid : List C) × IsTakenBy leads fit unfit unsure old mid None × IsTakenBy leads fit unfit (λ _. ⊥) mid new taken)

-- So is the connection of the one that is taken. What was heard on one isn't said: where none is taken, none stays
-- that leads there, and isn't too old.
abbrev pub TakesWire : {C W : Type 0} → (wire : C → W) → (leads : C → Type 0) → (since : C → ℕ) → (unsure : C → Type 0) → (now most : ℕ)
    → (old new : List C)
    → Option W → Type 0
TakesWire {C} wire leads since unsure now most old new taken = (idle : Option C) × (option_map wire idle ≡ taken)
    × IsTaken leads (IsFit since (λ _. ⊤) now most) (IsUnfit since (λ _. ⊤) now most) unsure old new idle

-- those that stay where there is to be room for one more, of so many at most: where there is none, the oldest goes
abbrev pub room_in : {C : Type 0} → (most : ℕ) → List C → List C
room_in most all = cond (nat_lt (length all) most) all (drop 1 all)

-- One is laid down, as the youngest. None is where none may lie idle.
abbrev pub IsLaid : {C : Type 0} → (most : ℕ) → (old new : List C) → C → Bool → Type 0
IsLaid most old new idle true = (0 < most) × (new ≡ room_in most old ++ idle ∷ [])
IsLaid most old new idle false = (most ≡ 0) × (new ≡ old)

-- an origin's connection was laid down at this moment, as the youngest of those that lie idle
abbrev pub LaysWire : {C W : Type 0} → (wire : C → W) → (since : C → ℕ) → (most : ℕ) → (old new : List C) → W → (now : ℕ) → Type 0
LaysWire {C} wire since most old new used now = (idle : C) × (wire idle ≡ used) × (since idle ≡ now) × IsLaid most old new idle true

-- this connection lies idle among them
abbrev pub HasWire : {C W : Type 0} → (wire : C → W) → List C → W → Type 0
HasWire {C} wire all used = (older : List C) × (idle : C) × (younger : List C) × (all ≡ older ++ idle ∷ younger) × (wire idle ≡ used)
