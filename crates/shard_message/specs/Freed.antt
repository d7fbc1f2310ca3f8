-- The service's connection once the service has said all.
use Rattle.std.specs.Prelude.{◌≡◌, Bool, true, Option, Some, None}
use Rattle.shard_message.specs.Lines.{HasLine}

-- it comes out of the transaction, and lies beside its lease; none does only where the service hasn't said all, or it is gone
abbrev pub IsFreed : {C W : Type 0} → (heard : Bool) → (line : Option W) → (wire : C → Option W) → (leased : Option C)
    → (usable : Option Bool) → Type 0
IsFreed heard line wire leased None = heard ≡ true → line ≡ None
IsFreed {C} {W} heard line wire leased (Some usable) = (heard ≡ true) × ((freed : W) × (line ≡ Some freed) × HasLine wire leased freed)

-- the connection that came out, where one did
abbrev pub freed_of : {W : Type 0} → (line : Option W) → (usable : Option Bool) → Option W
freed_of line None = None
freed_of line (Some usable) = line
