-- What may be sent to a loop.
use Rattle.std.specs.Prelude.{ℕ, Bool, false, List, ◌∷◌, Result, Ok, Err}
use Rattle.std.specs.declared.alloc.AllocError.{AllocError}

-- something that is sent
pub data Sending : Type 0 where
  -- the user of this number was laid into the inbox of this loop, and is alone there or not
  Laid : ℕ → ℕ → Bool → Sending
  -- this loop is asked for room
  Crowded : ℕ → Sending
  -- this loop is woken
  Woke : ℕ → Sending

-- one more was sent, whatever was before
abbrev pub Adds : (before after : List Sending → Type 0) → Sending → Type 0
Adds before after sending = (past : List Sending) → before past → after (sending ∷ past)

-- a user was laid in, and is alone there
abbrev pub is_alone : Result Bool AllocError → Bool
is_alone (Ok alone) = alone
is_alone (Err e) = false
