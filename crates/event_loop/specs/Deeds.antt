-- What a loop has its work do.
use Rattle.std.specs.Prelude.{ℕ, Bool, true, false, List, ◌∷◌, Option, Some, None}
use Rattle.socket_wire.specs.declared.token.Peer.{Peer}
use Rattle.event_loop.specs.declared.admin_lines.Request.{Request}
use Rattle.event_loop.specs.declared.work.Told.{Told}
use Rattle.event_loop.specs.declared.work.Driven.{Driven}
use Rattle.event_loop.specs.declared.work.Driven.TheVariants.{Waiting, Paused, CutShort, Blocked, Over}
use Rattle.event_loop.specs.declared.work.Admitted.{Admitted}

-- a call of the work that changes it, with what it answered
pub data Deed : Type 0 where
  -- the user of this number was taken in, or passed on, or closed
  TookIn : ℕ → Admitted → Deed
  -- it was asked for room for a user, and there is some or not
  MadeRoom : Bool → Deed
  -- it was told that the last poll reported all that there was to report, or only as much as it had room for
  Heard : Bool → Deed
  -- an event of the connection under this number and peer was noted, and is news for the exchange under a key, or for none
  Noted : ℕ → Peer → Told → Option ℕ → Deed
  -- the exchange under this key was driven so far
  Drove : ℕ → Driven → Deed
  -- the exchange under this key was ended, since another one wants what it has
  GaveWay : ℕ → Deed
  -- a queue was asked for the exchange that gets a turn: the first one in it, or one that gives way to who waits in it
  Asked : ℕ → Option ℕ → Deed
  -- a line of the administrator was answered, or a request for the counters
  Answered : Request → Deed
  -- a turn was over
  EndedTurn : Deed
  -- users are let go from now on
  Drained : Deed
  -- all exchanges were ended
  Halted : Deed

-- one more deed, whatever was done before
abbrev pub Adds : (before after : List Deed → Type 0) → Deed → Type 0
Adds before after deed = (past : List Deed) → before past → after (deed ∷ past)

-- there is more to do, once others have had their turn
abbrev pub has_more : Driven → Bool
has_more Paused = true
has_more CutShort = true
has_more (Blocked other) = true
has_more Waiting = false
has_more Over = false

-- it goes on once others have taken their steps
abbrev pub is_paused : Driven → Bool
is_paused Paused = true
is_paused _ = false

-- a turn ends with this deed
abbrev pub is_end : Deed → Bool
is_end EndedTurn = true
is_end _ = false

-- the key of the exchange that blocks the one which was driven by the newest deed, if that is what it says
abbrev pub blocker : List Deed → Option ℕ
blocker (Drove key (Blocked other) ∷ deeds) = Some other
blocker _ = None
