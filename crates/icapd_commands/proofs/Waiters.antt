-- The longest waiter of the seats so far.
use Rattle.std.proofs.Common.{◌≡◌, ℕ, ◌+◌, ◌<◌, ◌≤◌, ◌⊎◌, inl, inr, Bool, List, length, Option, Some, None, IfSome, sym, ◌∙◌, subst, arith}
use Rattle.std.specs.List.{slice_get}
use Rattle.std.proofs.lemmas.Bool.{cases_order}
use Rattle.std.proofs.lemmas.Option.{same_Some}
use Rattle.icapd_commands.specs.declared.seats.Doing.{Doing}
use Rattle.icapd_commands.specs.declared.seats.Doing.TheVariants.{Waiting}
use Rattle.icapd_commands.specs.declared.seats.Waiter.{Waiter}
use Rattle.icapd_commands.specs.Seats.{WaitsAt, IsLonger}

-- none of the first seats waits
abbrev pub NoneBelow : List Doing → Bool → ℕ → Type 0
NoneBelow seats first n = (key since : ℕ) → key < n → WaitsAt seats first key since → ⊥

-- none of the first seats waits for longer
abbrev pub LeastBelow : List Doing → Bool → ℕ → ℕ → Type 0
LeastBelow seats first n least = (key since : ℕ) → key < n → WaitsAt seats first key since → least ≤ since

-- of the first seats this one waits longest, or none waits
abbrev pub LongestBelow : List Doing → Bool → ℕ → Option Waiter → Type 0
LongestBelow seats first n None = NoneBelow seats first n
LongestBelow seats first n (Some waiter) = WaitsAt seats first waiter.key waiter.since × LeastBelow seats first n waiter.since

-- two waits that are alike are since the same turn
same_since : (a b : ℕ) (first : Bool) → Waiting a first ≡ Waiting b first → a ≡ b
same_since a b first e = cc

-- the next seat doesn't wait
pub past : (seats : List Doing) (first : Bool) (n : ℕ) (found : Option Waiter) → ((since : ℕ) → WaitsAt seats first n since → ⊥)
    → LongestBelow seats first n found → LongestBelow seats first (n + 1) found
past seats first n None idle h = λ key since less waits.
    elim (cases_order key n) as (λ _. ⊥) [
      | inl same ↦ idle since (subst (λ k. WaitsAt seats first k since) same waits)
      | inr (inl below) ↦ h key since below waits
      | inr (inr above) ↦ absurd (omega (arith, less, above))
    ]
past seats first n (Some waiter) idle h = (
  h.0,
  λ key since less waits.
      elim (cases_order key n) as (λ _. waiter.since ≤ since) [
        | inl same ↦ absurd (idle since (subst (λ k. WaitsAt seats first k since) same waits))
        | inr (inl below) ↦ h.1 key since below waits
        | inr (inr above) ↦ absurd (omega (arith, less, above))
      ],
)

-- it waits since this turn
least_after : (seats : List Doing) (first : Bool) (n least turn : ℕ) → WaitsAt seats first n turn → least ≤ turn
    → LeastBelow seats first n least → LeastBelow seats first (n + 1) least
least_after seats first n least turn here le below = λ key since less waits.
    elim (cases_order key n) as (λ _. least ≤ since) [
      | inl same ↦
          let there : WaitsAt seats first n since = subst (λ k. WaitsAt seats first k since) same waits in
          let turns : turn ≡ since = same_since turn since first (same_Some (Waiting turn first) (Waiting since first)
          (sym here ∙ there)) in
          subst (λ s. least ≤ s) turns le
      | inr (inl under) ↦ below key since under waits
      | inr (inr above) ↦ absurd (omega (arith, less, above))
    ]

-- where the next seat waits, the longer waiter of it and the longest before it, if any, is the longest up to it
pub taken : (seats : List Doing) (first : Bool) (n : ℕ) (found : Option Waiter) (next which : Waiter) → next.key ≡ n
    → WaitsAt seats first n next.since
    → IsLonger found next which → LongestBelow seats first n found → LongestBelow seats first (n + 1) (Some which)
taken seats first n None next which at here longer h =
    subst (λ (w : Waiter). LongestBelow seats first (n + 1) (Some w)) (sym longer) (
      subst (λ k. WaitsAt seats first k next.since) (sym at) here,
      least_after seats first n next.since next.since here (omega arith) (λ key since less waits. absurd (h key since less waits)),
    )
taken seats first n (Some other) next which at here (inl longer) h =
    subst (λ (w : Waiter). LongestBelow seats first (n + 1) (Some w)) (sym longer.0) (
      subst (λ k. WaitsAt seats first k next.since) (sym at) here,
      least_after seats first n next.since next.since here (omega arith)
          (λ key since less waits. let le : other.since ≤ since = h.1 key since less waits in omega (arith, le, longer.1)),
    )
taken seats first n (Some other) next which at here (inr longer) h =
    subst (λ (w : Waiter). LongestBelow seats first (n + 1) (Some w)) (sym longer.0) (
      h.0,
      least_after seats first n other.since next.since here longer.1 h.1,
    )
