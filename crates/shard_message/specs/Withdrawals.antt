-- What becomes of a request whose origin's connection has ended, and of that connection.
use Rattle.std.specs.Prelude.{◌≡◌, ⊤, Bool, true, false}
use Rattle.shard_exchange.specs.declared.answers.Withdrawal.{Withdrawal}
use Rattle.shard_exchange.specs.declared.answers.Withdrawal.TheVariants.{Again, Heard, NoMemory}

-- where `Again` was answered, the request is the message again; where it wasn't, its origin has said something, or memory was
-- wanting
abbrev pub WithdrawsAs : (again heard : Type 0) → Withdrawal → Type 0
WithdrawsAs again heard Again = again
WithdrawsAs again heard Heard = heard
WithdrawsAs again heard NoMemory = ⊤

-- the origin's connection lies with its surroundings, or they turned it down
abbrev pub LaysOrNot : (lays turns_down : Type 0) → (kept : Bool) → Type 0
LaysOrNot lays turns_down kept = (kept ≡ true → lays) × (kept ≡ false → turns_down)
