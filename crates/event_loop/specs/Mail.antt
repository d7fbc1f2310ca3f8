-- What a loop sends to others.
use Rattle.std.specs.Prelude.{◌≡◌, ℕ, ◌<◌, ◌≤◌, ◌%◌, Bool, true, false, cond, nat_eq, List, [], ◌∷◌, ◌++◌}
use Rattle.event_loop.specs.declared.mail.Mail.{Ghosts as Mail}
use Rattle.event_loop.specs.declared.ports.Turn.{Turn}
use Rattle.event_loop.specs.declared.ports.Turn.TheVariants.{Own, Other, Waits}
use Rattle.event_loop.specs.Sendings.{Sending}
use Rattle.event_loop.specs.Sendings.Sending.{Laid, Crowded, Woke}

-- the mail may have had these sendings on top of its past, the newest first
abbrev pub Sends : {M : Type 0} → Mail M → (old new : M) → List Sending → Type 0
Sends w old new sendings = (past : List Sending) → w.past old past → w.past new (sendings ++ past)

-- a loop is woken, unless it is the sender
abbrev pub wakes : (own : Bool) → ℕ → List Sending
wakes own to = cond own [] (Woke to ∷ [])

-- the user of this number was laid into the inbox of the loop `to`, which is woken where that user is alone there
abbrev pub hands : (own : Bool) → (to number : ℕ) → (alone : Bool) → List Sending
hands own to number alone = cond alone (wakes own to) [] ++ (Laid to number alone ∷ [])

-- the loop `to` was asked for room
abbrev pub asks : (own : Bool) → ℕ → List Sending
asks own to = wakes own to ++ (Crowded to ∷ [])

-- the user of this number was handed to the loop `to`, among these sendings
pub record IsHandedTo (own to number : ℕ) (sendings : List Sending) : Type 0 where
  pub alone : Bool
  pub later : List Sending
  pub before : List Sending
  pub is : sendings ≡ later ++ (hands (nat_eq to own) to number alone ++ before)

-- what a loop does with the users that it accepts: their numbers are above the first one here, and up to the last one
pub record HandsOut {M : Type 0} (w : Mail M) (old new : M) (own loops first last : ℕ) (came : Bool) : Type 0 where
  pub sendings : List Sending
  pub sends : Sends w old new sendings
  -- each goes to the loop whose turn it is
  pub turns : 0 < loops → (number : ℕ) → first < number → number ≤ last → IsHandedTo own (number % loops) number sendings
  -- the sender knows whether it has got one
  pub knows : 0 < loops → came ≡ false → (number : ℕ) → first < number → number ≤ last → number % loops ≡ own → ⊥

-- the user lies in the sender's own inbox
abbrev pub is_own : Turn → Bool
is_own Own = true
is_own Other = false
is_own Waits = false
