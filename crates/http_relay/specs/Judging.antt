-- When a head is judged, and why one is refused.
use Rattle.std.specs.Prelude.{◌≡◌, ◌≢◌, ℕ, ◌<◌, ◌≤◌, ◌⊎◌, false, List, length, take, drop, Option, Some, None, Result, Ok, Err}
use Rattle.adapt_bytes.specs.Text.{has_line}
use Rattle.http_side.specs.Heads.{ResponseParts}
use Rattle.http_side.specs.Requests.{MayRefuseRequest}
use Rattle.http_side.specs.Responses.{MayRefuseResponse, IsResponseRead}
use Rattle.http_side.specs.declared.fault.HttpFault.{HttpFault}
use Rattle.http_side.specs.declared.fault.HttpFault.TheVariants as why
use Rattle.adapt_sides.specs.declared.fault.RelayFault.{RelayFault}
use Rattle.adapt_sides.specs.declared.fault.RelayFault.TheVariants.{Head, Closed, Device, NoMemory}
use Rattle.adapt_bytes.specs.declared.limits.TheConstants.{MAX_HEAD}
use Rattle.http_relay.specs.declared.side.SourceSide.{SourceSide}
use Rattle.http_relay.specs.declared.side.head.Asks.{Asks}
use Rattle.http_relay.specs.declared.side.head.Asks.TheVariants as asks
use Rattle.http_relay.specs.declared.side.head.SourceHead.TheVariants as heads
use Rattle.http_relay.specs.declared.side.head.TheConstants.{MAX_INTERIMS}
use Rattle.http_relay.specs.declared.side.head.HeadProgress.{HeadProgress}
use Rattle.http_relay.specs.declared.side.head.HeadProgress.TheVariants as progress

-- the bytes are refused for this, as a request's head or a response's
abbrev pub RefusesBytes : Asks → List ℕ → HttpFault → Type 0
RefusesBytes asks.Request bytes fault = MayRefuseRequest false bytes fault
RefusesBytes (asks.Response to_head) bytes fault = MayRefuseResponse bytes fault

-- a response asks for another protocol (RFC 9110, section 15.2.2)
abbrev pub IsSwitching : Asks → List ℕ → Type 0
IsSwitching asks.Request bytes = ⊥
IsSwitching (asks.Response to_head) bytes = (r : ResponseParts) × (len : ℕ) × IsResponseRead to_head bytes r len × (r.status ≡ 101)

-- an interim response other than 101
pub record IsInterim (r : ResponseParts) : Type 0 where
  pub from : 100 ≤ r.status
  pub to : r.status ≤ 199
  pub other : r.status ≢ 101

-- an interim response stands first, and as many were dropped as are read before an answer
abbrev pub IsOneTooMany : Asks → List ℕ → (dropped : ℕ) → Type 0
IsOneTooMany asks.Request bytes dropped = ⊥
IsOneTooMany (asks.Response to_head) bytes dropped =
    (r : ResponseParts) × (len : ℕ) × IsResponseRead to_head bytes r len × IsInterim r × (MAX_INTERIMS ≤ dropped)

-- before the head: the raw bytes that were judged are a prefix of a head, and nothing was refused
pub record IsLooking (s : SourceSide) : Type 0 where
  pub within : s.judged ≤ length s.raw.items
  pub beginning : (s.judged ≡ 0) ⊎ RefusesBytes s.asks (take s.judged s.raw.items) why.More
  pub no_fault : s.head_fault ≡ None

-- and no line has ended since: there is nothing to judge before more bytes come
pub record HasNoHead (s : SourceSide) : Type 0 where
  pub looking : IsLooking s
  pub no_line : has_line (drop s.judged s.raw.items) ≡ false
  pub few : length s.raw.items < MAX_HEAD

-- the raw bytes are refused, for this fault; 101, and one interim response too many, have none
abbrev pub RefusesHead : SourceSide → Option HttpFault → Type 0
RefusesHead s (Some why.More) = ⊥
RefusesHead s (Some why.NoMemory) = ⊥
RefusesHead s (Some fault) = RefusesBytes s.asks s.raw.items fault
RefusesHead s None = IsSwitching s.asks s.raw.items ⊎ IsOneTooMany s.asks s.raw.items s.interims

-- there is no memory for the head
pub record LacksMemory (s : SourceSide) : Type 0 where
  pub fault : s.head_fault ≡ Some why.NoMemory
  pub cause : RefusesBytes s.asks s.raw.items why.NoMemory

-- what a fault of judging says
abbrev pub IsRefused : RelayFault → SourceSide → Type 0
IsRefused Head s = RefusesHead s s.head_fault
IsRefused NoMemory s = LacksMemory s
IsRefused _ s = ⊥

-- what judging the raw bytes once says of them
abbrev pub JudgesHead : Result HeadProgress RelayFault → SourceSide → Type 0
JudgesHead (Ok progress.More) s = HasNoHead s
JudgesHead (Ok progress.Interim) s = IsLooking s
JudgesHead (Ok progress.Taken) s = s.head ≡ heads.Unread → ⊥
JudgesHead (Err fault) s = IsRefused fault s

-- judging drops one interim response, or none
abbrev pub interims_in : Result HeadProgress RelayFault → ℕ
interims_in (Ok progress.Interim) = 1
interims_in _ = 0

-- What a turn at the head says of the raw bytes: if they have no head, each line's end in them was judged; only then does the
-- turn answer the wire's own faults.
abbrev pub Looks : Result HeadProgress RelayFault → SourceSide → Type 0
Looks (Ok progress.More) s = HasNoHead s
Looks (Ok progress.Interim) s = IsLooking s
Looks (Ok progress.Taken) s = s.head ≡ heads.Unread → ⊥
Looks (Err Head) s = RefusesHead s s.head_fault
Looks (Err NoMemory) s = LacksMemory s ⊎ HasNoHead s
Looks (Err Closed) s = HasNoHead s
Looks (Err Device) s = HasNoHead s
Looks (Err _) s = ⊥
