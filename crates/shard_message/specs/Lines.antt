-- The service's connection that is leased.
use Rattle.std.specs.Prelude.{◌≡◌, Bool, true, false, ⊤, Option, Some, None, IsSomeAnd}

-- the connection beside its lease, where no transaction has it
abbrev pub line_in : {C W : Type 0} → (wire : C → Option W) → Option C → Option W
line_in wire None = None
line_in wire (Some leased) = wire leased

-- the one for a message: it needs none that isn't offered
abbrev pub line_for : {C W : Type 0} → (wire : C → Option W) → (offered : Bool) → Option C → Option W
line_for wire false leased = None
line_for wire true leased = line_in wire leased

-- where one is leased, this connection lies beside the lease
abbrev pub HasLine : {C W : Type 0} → (wire : C → Option W) → Option C → W → Type 0
HasLine wire None line = ⊤
HasLine wire (Some leased) line = wire leased ≡ Some line

-- where one is leased, a fresh connection lies beside the lease in place of the one that lay there: it goes with the lease as that is now,
-- which is of the same service
abbrev pub IsRenewed : {C W : Type 0} → (wire : C → Option W) → (same : C → C → Type 0) → (fresh : W → C → Type 0) → (old new : Option C)
    → Type 0
IsRenewed wire same fresh None new = ⊤
IsRenewed wire same fresh (Some old) None = ⊥
IsRenewed wire same fresh (Some old) (Some new) = same old new × IsSomeAnd (wire new) (λ line. fresh line new)
