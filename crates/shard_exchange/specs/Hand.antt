-- What an exchange holds of what its course counts, and how much it has said itself.
use Rattle.std.specs.Prelude.{◌≡◌, ℕ, Bool, true, false, List, Option, None}

-- What was said of a refusal.
pub record Refused : Type 0 where
  -- its text with a page, where that was laid
  pub page : Option (List ℕ)
  -- how many bytes are out
  pub out : ℕ

abbrev pub refused_of : Option (List ℕ) → ℕ → Refused
refused_of page out = record { page = page; out = out }

pub record Hand : Type 0 where
  -- the right to a connection of a service
  pub leased : Bool
  -- the reservation, where no transaction has it
  pub room : Bool
  -- the connection to an origin, where no transaction has it
  pub origin : Bool
  -- the transaction of a message that moves: it has both
  pub moving : Bool
  -- how many bytes of the text that tells the user to send its body are out
  pub told : ℕ
  pub refused : Refused
  -- the user was told that nothing more comes
  pub finished : Bool

abbrev pub hand_of : (leased room origin moving : Bool) → (told : ℕ) → Refused → (finished : Bool) → Hand
hand_of a b c d e f g = record { leased = a; room = b; origin = c; moving = d; told = e; refused = f; finished = g }

-- nothing is held
abbrev pub IsEmpty : Hand → Type 0
IsEmpty h = (h.leased ≡ false) × (h.room ≡ false) × (h.origin ≡ false) × (h.moving ≡ false)

-- nor is anything said
abbrev pub IsFresh : Hand → Type 0
IsFresh h = IsEmpty h × (h.told ≡ 0) × (h.refused.page ≡ None) × (h.refused.out ≡ 0) × (h.finished ≡ false)

-- no more is said
abbrev pub SaysNothing : (old new : Hand) → Type 0
SaysNothing old new = (new.told ≡ old.told) × (new.refused ≡ old.refused) × (new.finished ≡ old.finished)

-- what is held is the same
abbrev pub HoldsSame : (old new : Hand) → Type 0
HoldsSame old new = (new.leased ≡ old.leased) × (new.room ≡ old.room) × (new.origin ≡ old.origin) × (new.moving ≡ old.moving)

-- all of it is the same
abbrev pub Keeps : (old new : Hand) → Type 0
Keeps old new = HoldsSame old new × SaysNothing old new

-- but for the text that tells the user to send its body
abbrev pub KeepsButTold : (old new : Hand) → Type 0
KeepsButTold old new = HoldsSame old new × (new.refused ≡ old.refused) × (new.finished ≡ old.finished)

-- but for the refusal
abbrev pub KeepsButRefused : (old new : Hand) → Type 0
KeepsButRefused old new = HoldsSame old new × (new.told ≡ old.told) × (new.finished ≡ old.finished)

-- but for that the user is told that nothing more comes
abbrev pub KeepsButFinished : (old new : Hand) → Type 0
KeepsButFinished old new = HoldsSame old new × (new.told ≡ old.told) × (new.refused ≡ old.refused)

-- but for the service's connection
abbrev pub KeepsButLease : (old new : Hand) → Type 0
KeepsButLease old new = (new.room ≡ old.room) × (new.origin ≡ old.origin) × (new.moving ≡ old.moving) × SaysNothing old new

-- but for the reservation
abbrev pub KeepsButRoom : (old new : Hand) → Type 0
KeepsButRoom old new = (new.leased ≡ old.leased) × (new.origin ≡ old.origin) × (new.moving ≡ old.moving) × SaysNothing old new

-- but for the origin's connection
abbrev pub KeepsButOrigin : (old new : Hand) → Type 0
KeepsButOrigin old new = (new.leased ≡ old.leased) × (new.room ≡ old.room) × (new.moving ≡ old.moving) × SaysNothing old new

-- the message moves now: its transaction has the reservation and the origin's connection
abbrev pub SetsOut : (old new : Hand) → Type 0
SetsOut old new = (new.leased ≡ old.leased) × (new.room ≡ false) × (new.origin ≡ false) × (new.moving ≡ true) × SaysNothing old new

-- the message moves no more: what its transaction had has come back
abbrev pub ComesBack : (old new : Hand) → Type 0
ComesBack old new = (new.leased ≡ old.leased) × (new.room ≡ true) × (new.origin ≡ true) × (new.moving ≡ false) × SaysNothing old new
