-- What is out when the loops have ended.
use Rattle.std.specs.Prelude.{◌≡◌, ℕ, Bool, ◌+◌, ◌++◌, List, [], ◌∷◌, length, cond, nat_lt, min, sum_by, Option, Some, None}
use Rattle.service_pool.specs.declared.leased.Leased.{Leased}
use Rattle.service_pool.specs.declared.leased.Leased.TheVariants.{Request, Response}
use Rattle.span_bank.specs.Stakes.{Shown}

-- a reservation that holds nothing, and has no page
abbrev pub HoldsNothing : Shown → Type 0
HoldsNothing stake = (stake.held ≡ 0) × (stake.pages ≡ 0)

-- how many reservations, and how many leases of the service of requests, and of that of responses
pub record Counts : Type 0 where
  pub stakes : ℕ
  pub requests : ℕ
  pub responses : ℕ

abbrev pub counts : ℕ → ℕ → ℕ → Counts
counts a b c = record { stakes = a; requests = b; responses = c }

-- a list with room for so many, once this one was handed in: it stands at the end, where there is room for it
abbrev pub with_one_more : {X : Type 0} → (room : ℕ) → List X → X → List X
with_one_more room xs x = cond (nat_lt (length xs) room) (xs ++ x ∷ []) xs

-- How many are kept, for so many of which there is room, once so many more were handed in.
pub record Keeps (room old more new : Counts) : Type 0 where
  pub stakes : new.stakes ≡ min room.stakes (old.stakes + more.stakes)
  pub requests : new.requests ≡ min room.requests (old.requests + more.requests)
  pub responses : new.responses ≡ min room.responses (old.responses + more.responses)

-- one lease
abbrev pub lease_of : {Q A : Type 0} → Leased Q A → Counts
lease_of (Request lease) = counts 0 1 0
lease_of (Response lease) = counts 0 0 1

-- what is out of an exchange: a reservation, and a lease
abbrev pub out_of : {Q A : Type 0} → (staked : Bool) → Option (Leased Q A) → Counts
out_of staked lease = record {
  stakes = cond staked 1 0;
  requests = elim lease [
    | None ↦ 0
    | Some lease ↦ (lease_of lease).requests
  ];
  responses = elim lease [
    | None ↦ 0
    | Some lease ↦ (lease_of lease).responses
  ];
}

-- what is out of what lies in a slot, and in all of them
abbrev pub out_of_slot : {X : Type 0} → (out : X → Counts) → Option X → Counts
out_of_slot out None = counts 0 0 0
out_of_slot out (Some x) = out x

abbrev pub out_of_slots : {X : Type 0} → (out : X → Counts) → List (Option X) → Counts
out_of_slots out slots = record {
  stakes = sum_by (λ slot. (out_of_slot out slot).stakes) slots;
  requests = sum_by (λ slot. (out_of_slot out slot).requests) slots;
  responses = sum_by (λ slot. (out_of_slot out slot).responses) slots;
}
