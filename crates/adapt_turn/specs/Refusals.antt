-- The proxy's own refusal: its status, and that it stands where the user has got no byte.
use Rattle.std.specs.Prelude.{◌≡◌, ℕ, ◌⊎◌, Bool, true, false, Option, Some}
use Rattle.trace_core.specs.declared.history.Cause.{Cause}
use Rattle.trace_core.specs.declared.history.Cause.TheVariants.{Source, Service, NextHop, Memory, Deadline, Stopping}
use Rattle.trace_core.specs.declared.history.Point.{Point}
use Rattle.trace_core.specs.declared.history.Point.TheVariants.{Reqmod, Respmod}
use Rattle.adapt_sides.specs.declared.fault.RelayFault.{RelayFault}
use Rattle.adapt_sides.specs.declared.fault.RelayFault.TheVariants as relay
use Rattle.adapt_sides.specs.declared.hop.Hop.{Ghosts as Hop}
use Rattle.adapt_sides.specs.Turns.{Gift, wire_fault}
use Rattle.adapt_sides.specs.Turns.Gift.{message, refusal}
use Rattle.adapt_turn.specs.Stands.{user_gift}

-- the status by what the transaction failed of; at REQMOD the source is the user
abbrev pub refusal_status : Cause → Point → ℕ
refusal_status Source Reqmod = 400
refusal_status Source Respmod = 502
refusal_status Service point = 502
refusal_status NextHop point = 502
refusal_status Memory point = 503
refusal_status Stopping point = 503
refusal_status Deadline point = 504

-- whether no byte has gone out to the user: at REQMOD the user is the source, at RESPMOD the next hop
abbrev pub user_untouched : Point → (next back : Bool) → Bool
user_untouched Reqmod next back = back
user_untouched Respmod next back = next

-- The user's writer: whether a refusal is due on it, what it has, and whether no byte has gone out.
pub record UserView : Type 0 where
  pub refusing : Bool
  pub gift : Gift
  pub untouched : Bool

-- that of the two writers
abbrev pub user_view : {K G : Type 0} → Hop K G → Point → (refusing : Bool) → (next back : K) → UserView
user_view k point refusing next back = record {
  refusing = refusing;
  gift = user_gift point (k.gift next) (k.gift back);
  untouched = user_untouched point (k.untouched next) (k.untouched back);
}

-- the user's writer has the refusal of this status; or a byte of an answer has gone out, and no refusal is due
abbrev pub HasRefusal : (status : ℕ) → UserView → Type 0
HasRefusal status user = ((user.refusing ≡ true) × (user.gift ≡ refusal status)) ⊎ ((user.refusing ≡ false) × (user.untouched ≡ false))

-- the refusal is out, or its wire has failed
abbrev pub IsOver : (out : Bool) → Option RelayFault → Type 0
IsOver out fault = (out ≡ true) ⊎ (fault ≡ Some relay.Device)

-- the fault of the user's writer
abbrev pub user_fault : Point → (next back : Option RelayFault) → Option RelayFault
user_fault Reqmod next back = back
user_fault Respmod next back = next

-- where a refusal is due, its writer has no message, and no fault but that its wire has failed
abbrev pub IsDue : Gift → Option RelayFault → Type 0
IsDue gift fault = (gift ≡ message → ⊥) × (fault ≡ wire_fault fault)
