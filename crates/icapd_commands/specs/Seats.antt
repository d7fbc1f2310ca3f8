-- Which connection may give its seat to another.
use Rattle.std.specs.Prelude.{◌≡◌, ℕ, ◌≤◌, ◌<◌, ◌⊎◌, Bool, true, false, List, Option, Some, None, slice_get}
use Rattle.icapd_commands.specs.declared.seats.Doing.{Doing}
use Rattle.icapd_commands.specs.declared.seats.Waiter.{Waiter}
use Rattle.icapd_commands.specs.declared.seats.Doing.TheVariants.{Waiting, Lingering, Ending}

-- the connection on this seat does this
abbrev pub IsAt : List Doing → ℕ → Doing → Type 0
IsAt seats key doing = slice_get seats key ≡ Some doing

-- it waits for a request since this turn: for its first one, or for one after others
abbrev pub WaitsAt : List Doing → Bool → ℕ → ℕ → Type 0
WaitsAt seats first key since = IsAt seats key (Waiting since first)

-- it waits, and no other waits for longer
pub record IsLongest (seats : List Doing) (first : Bool) (key : ℕ) : Type 0 where
  pub since : ℕ
  pub waits : WaitsAt seats first key since
  pub longest : (other earlier : ℕ) → WaitsAt seats first other earlier → since ≤ earlier

-- the one of two that waits for longer
abbrev pub IsLonger : Option Waiter → Waiter → Waiter → Type 0
IsLonger None next which = which ≡ next
IsLonger (Some other) next which =
    ((which ≡ next) × (next.since < other.since)) ⊎ ((which ≡ other) × (other.since ≤ next.since))

-- a connection was asked to end, and neither has ended nor begun a request
abbrev pub IsOneEnding : List Doing → Type 0
IsOneEnding seats = (key : ℕ) × IsAt seats key Ending

-- no connection waits for a request: for its first one, or for one after others
abbrev pub NoneWaits : List Doing → Bool → Type 0
NoneWaits seats first = (key since : ℕ) → WaitsAt seats first key since → ⊥

-- no connection has had its last answer
abbrev pub NoneLingers : List Doing → Type 0
NoneLingers seats = (key : ℕ) → IsAt seats key Lingering → ⊥

-- it has waited longest for a request after others; or, if no connection waits for such a one and that is asked for too, longest
-- for its first one
abbrev pub IsWaiterToEnd : List Doing → Bool → ℕ → Type 0
IsWaiterToEnd seats first_too key =
    IsLongest seats false key ⊎ (NoneWaits seats false × (first_too ≡ true) × IsLongest seats true key)

-- no connection that waits may be ended
abbrev pub NoWaiterIsToEnd : List Doing → Bool → Type 0
NoWaiterIsToEnd seats first_too = NoneWaits seats false × ((first_too ≡ false) ⊎ NoneWaits seats true)

-- The connection is to end for another: no connection is ending, and it has had its last answer; or, if none has, it is the waiter
-- to end. So it isn't within a request.
pub record IsToEnd (seats : List Doing) (first_too : Bool) (key : ℕ) : Type 0 where
  pub alone : IsOneEnding seats → ⊥
  pub first : IsAt seats key Lingering ⊎ (NoneLingers seats × IsWaiterToEnd seats first_too key)

-- no connection is
abbrev pub NoneIsToEnd : List Doing → Bool → Type 0
NoneIsToEnd seats first_too = IsOneEnding seats ⊎ (NoneLingers seats × NoWaiterIsToEnd seats first_too)
