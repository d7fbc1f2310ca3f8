-- A message on its way, through the steps of its exchange.
use Rattle.std.specs.Prelude.{◌≡◌, ℕ, zero, suc, Option, Some}
use Rattle.shard_message.specs.Outset.{Outset}

-- so many steps lead from the one to the other
abbrev pub AreSteps : {H : Type 0} → (step : H → H → Type 0) → ℕ → (old new : H) → Type 0
AreSteps step zero old new = new ≡ old
AreSteps {H} step (suc n) old new = (mid : H) × step old mid × AreSteps step n mid new

-- A message moves, and since it set out so its connections are accounted for; but the service's connection may be another one now, or was
-- given up.
pub record IsSince {U S O M : Type 0} (since : Outset U S O → M → Type 0) (s : Outset U S O) (moving : Option M) : Type 0 where
  pub tx : M
  pub moves : moving ≡ Some tx
  pub line : Option S
  pub given : Option S
  pub stands : since (record s { line = line; given = given }) tx

-- each way in which the old one may have set out is one in which the new one may have
abbrev pub Carries : {U S O M : Type 0} → (since : Outset U S O → M → Type 0) → (old new : Option M) → Type 0
Carries {U} {S} {O} since old new = (s : Outset U S O) → IsSince since s old → IsSince since s new
