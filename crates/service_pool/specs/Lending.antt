-- What was asked of a connector, the newest answer first, where connections are lent, renewed and put back.
use Rattle.std.specs.Prelude.{◌≡◌, ℕ, zero, suc, ◌-◌, ◌<◌, ◌==◌, ◌⊎◌, Bool, true, false, List, ◌∷◌, Option, Some, None, Result, Ok, Err, ⊤}
use Rattle.trace_core.specs.declared.history.Point.{Point}
use Rattle.trace_core.specs.declared.history.Point.TheVariants.{Reqmod, Respmod}
use Rattle.service_pool.specs.declared.connector.Act.{Act}
use Rattle.service_pool.specs.declared.connector.Act.TheVariants.{Opened, Looked, Resumed, Checked, Rested, Closed}
use Rattle.service_pool.specs.declared.connector.LendFault.{LendFault}
use Rattle.service_pool.specs.declared.connector.LendFault.TheVariants.{Busy, Unreached, Paused}
use Rattle.service_pool.specs.declared.leased.Leased.{Leased}
use Rattle.service_pool.specs.declared.leased.Leased.TheVariants as leased
use Rattle.service_pool.specs.declared.leased.LeasedConnection.{LeasedConnection}
use Rattle.service_pool.specs.declared.leased.Lendable.{Lendable}
use Rattle.service_pool.specs.declared.leased.Lendable.TheVariants as lendable

-- the fault that an answer names
abbrev pub fault_in : {A : Type 0} → Result A LendFault → Option LendFault
fault_in (Ok x) = None
fault_in (Err fault) = Some fault

-- a fault that a connector itself meets
abbrev pub IsOwn : LendFault → Type 0
IsOwn Busy = ⊥
IsOwn Paused = ⊥
IsOwn fault = ⊤

-- the point whose pool the lease is of
abbrev pub point_of : {Q A : Type 0} → Leased Q A → Point
point_of (leased.Request lease) = Reqmod
point_of (leased.Response lease) = Respmod

-- whether its connection was idle when it was taken, and hasn't been replaced since
abbrev pub is_reused : {Q A : Type 0} → Leased Q A → Bool
is_reused (leased.Request lease) = lease.reused
is_reused (leased.Response lease) = lease.reused

-- whether its connection was idle and lay with the thread that took it, and hasn't been replaced since
abbrev pub is_own : {Q A : Type 0} → Leased Q A → Bool
is_own (leased.Request lease) = lease.picked
is_own (leased.Response lease) = lease.picked

-- it has a lease of this point, which tells whether the connection was idle
abbrev pub Tells : {I Q A : Type 0} → Point → Lendable I Q A → Type 0
Tells point (lendable.Idle idle lease) = (point_of lease ≡ point) × (is_reused lease ≡ true)
Tells point (lendable.Fresh lease) = (point_of lease ≡ point) × (is_reused lease ≡ false)
Tells point lendable.Busy = point ≡ point

-- a connection that lies idle since a moment has done so for fewer seconds than one may
abbrev pub IsYoung : (since now most : ℕ) → Type 0
IsYoung since now most = now - since < most

-- an idle connection that was found is young
abbrev pub FindsYoung : {I Q A : Type 0} → (I → ℕ) → (now most : ℕ) → Lendable I Q A → Type 0
FindsYoung since now most (lendable.Idle idle lease) = IsYoung (since idle) now most
FindsYoung since now most (lendable.Fresh lease) = now ≡ now
FindsYoung since now most lendable.Busy = now ≡ now

-- the lease tells whether the idle connection that was found lies with this thread. A pool gives one of another thread's only where
-- none lies with this one
abbrev pub FindsOwn : {I Q A : Type 0} → (I → ℕ) → (thread : ℕ) → Lendable I Q A → Type 0
FindsOwn home thread (lendable.Idle idle lease) = is_own lease ≡ (home idle == thread)
FindsOwn home thread (lendable.Fresh lease) = is_own lease ≡ false
FindsOwn home thread lendable.Busy = true ≡ true

-- an idle connection that was found leads to where it should
abbrev pub FindsLeading : {I Q A : Type 0} → (I → Type 0) → Lendable I Q A → Type 0
FindsLeading leads (lendable.Idle idle lease) = leads idle
FindsLeading leads (lendable.Fresh lease) = true ≡ true
FindsLeading leads lendable.Busy = true ≡ true

-- the lease that was found
abbrev pub HasLease : {I Q A : Type 0} → Lendable I Q A → Leased Q A → Type 0
HasLease (lendable.Idle idle lease) other = other ≡ lease
HasLease (lendable.Fresh lease) other = other ≡ lease
HasLease lendable.Busy other = ⊥

-- what was asked to take what was found: an idle connection was looked at, and is fit for use
abbrev pub after_take : {I Q A : Type 0} → Option (Lendable I Q A) → List Act → List Act
after_take None p = Looked false ∷ p
after_take (Some (lendable.Idle idle lease)) p = Looked true ∷ p
after_take (Some (lendable.Fresh lease)) p = p
after_take (Some lendable.Busy) p = p

-- what was asked to lend it: an idle connection is brought into use, and a fresh one is opened; and this was the fault
abbrev pub after_lend : {I Q A : Type 0} → (since home : I → ℕ) → Lendable I Q A → Option LendFault → List Act → List Act
after_lend since home (lendable.Idle idle lease) fault p = Resumed (since idle) (home idle) fault ∷ p
after_lend since home (lendable.Fresh lease) fault p = Opened fault ∷ p
after_lend since home lendable.Busy fault p = p

-- this many idle connections were looked at that aren't fit for use
abbrev pub after_dead : ℕ → List Act → List Act
after_dead zero p = p
after_dead (suc n) p = Looked false ∷ after_dead n p

-- A connection was taken: each idle one that isn't fit for use was passed over.
pub record TakesLive {I Q A : Type 0} (before after : List Act → Type 0) (result : Lendable I Q A) : Type 0 where
  pub dead : ℕ
  pub each : (p : List Act) → before p → after (after_take (Some result) (after_dead dead p))

-- An idle connection was lent at this moment, or failed for this: it was young, was looked at and brought into use, once this many that
-- aren't fit for use were passed over. It is this thread's own, or isn't: then none lay with this thread.
pub record LendsIdle (now most thread : ℕ) (own : Bool) (before after : List Act → Type 0) (fault : Option LendFault) : Type 0 where
  pub dead : ℕ
  pub since : ℕ
  pub home : ℕ
  pub young : IsYoung since now most
  pub at_home : own ≡ (home == thread)
  pub each : (p : List Act) → before p → after (Resumed since home fault ∷ Looked true ∷ after_dead dead p)

-- A connection was opened, or failed for this, once this many idle ones that aren't fit for use were passed over.
pub record LendsFresh (before after : List Act → Type 0) (fault : Option LendFault) : Type 0 where
  pub dead : ℕ
  pub each : (p : List Act) → before p → after (Opened fault ∷ after_dead dead p)

-- Lending at this moment to this thread, where a connection may lie idle for so many seconds: the lease tells whether the connection was
-- idle, and whether it was this thread's own.
abbrev pub Lends : {U Q A : Type 0} → (now most thread : ℕ) → (before after : List Act → Type 0) → Result (LeasedConnection U Q A) LendFault
    → Type 0
Lends now most thread before after (Ok connection) =
    (is_reused connection.lease ≡ true → LendsIdle now most thread (is_own connection.lease) before after None)
    × (is_reused connection.lease ≡ false → LendsFresh before after None)
Lends now most thread before after (Err Busy) = (n : ℕ) × ((p : List Act) → before p → after (after_dead n p))
Lends now most thread before after (Err Paused) = (p : List Act) → before p → after p
Lends now most thread before after (Err fault) =
    ((own : Bool) × LendsIdle now most thread own before after (Some fault)) ⊎ LendsFresh before after (Some fault)

-- A connection with a lease of this point was lent, if any was.
abbrev pub IsOf : {U Q A : Type 0} → Point → Result (LeasedConnection U Q A) LendFault → Type 0
IsOf point (Ok connection) = point_of connection.lease ≡ point
IsOf point (Err fault) = point ≡ point

-- A connection that was lent leads to where it should.
abbrev pub Leads : {U Q A : Type 0} → (U → Type 0) → Result (LeasedConnection U Q A) LendFault → Type 0
Leads leads (Ok connection) = leads connection.wire
Leads leads (Err fault) = fault ≡ fault

-- What was asked to open a connection in place of one that is closed. Nothing was where the pool doesn't allow one.
abbrev pub Reopens : {U : Type 0} → (before after : List Act → Type 0) → Result U LendFault → Type 0
Reopens before after (Ok used) = (p : List Act) → before p → after (Opened None ∷ p)
Reopens before after (Err fault) = ((p : List Act) → before p → after (Opened (Some fault) ∷ p))
    ⊎ ((fault ≡ Unreached) × ((p : List Act) → before p → after p))

-- What was asked to put a connection back that lies idle then: it lives, and nothing lies unread on it. Otherwise it was closed, as each
-- one is where none is kept.
abbrev pub LaysDown : {I : Type 0} → (keeps : Bool) → (before after : List Act → Type 0) → Option I → Type 0
LaysDown keeps before after (Some idle) = (keeps ≡ true) × ((p : List Act) → before p → after (Rested true ∷ Checked true ∷ p))
LaysDown keeps before after None = ((keeps ≡ true) × ((p : List Act) → before p → after (Rested false ∷ Checked true ∷ p)))
    ⊎ ((keeps ≡ true) × ((p : List Act) → before p → after (Closed ∷ Checked false ∷ p)))
    ⊎ ((keeps ≡ false) × ((p : List Act) → before p → after (Closed ∷ p)))

-- What was asked to put a connection back, where one may lie idle for so many seconds: one that lies idle then lives, and has nothing
-- unread on it.
abbrev pub PutsBack : (most : ℕ) → (before after : List Act → Type 0) → Type 0
PutsBack most before after = ((0 < most) × ((p : List Act) → before p → after (Rested true ∷ Checked true ∷ p)))
    ⊎ ((0 < most) × ((p : List Act) → before p → after (Rested false ∷ Checked true ∷ p)))
    ⊎ ((0 < most) × ((p : List Act) → before p → after (Closed ∷ Checked false ∷ p)))
    ⊎ ((most ≡ 0) × ((p : List Act) → before p → after (Closed ∷ p)))
