-- What a loop did in a call: its deeds, and whom it owes another turn.
use Rattle.std.specs.Prelude.{◌≡◌, ℕ, ◌+◌, ◌*◌, ◌≤◌, ◌<◌, ◌⊎◌, ◌||◌, ⊤, Bool, true, false, cond, nat_eq, nat_lt, length, List, [], ◌∷◌}
use Rattle.std.specs.Prelude.{◌++◌, All, map, ◌/◌, Option, Some, None}
use Rattle.mio.specs.Events.{items}
use Rattle.socket_wire.specs.declared.token.Peer.{Peer}
use Rattle.socket_wire.specs.Token.{peer_number}
use Rattle.event_loop.specs.declared.ready_list.ReadyList.{ReadyList}
use Rattle.event_loop.specs.Marks.{is_marked, count}
use Rattle.event_loop.specs.declared.work.Driven.{Driven}
use Rattle.event_loop.specs.declared.work.Driven.TheVariants.{Waiting, Paused, CutShort, Blocked, Over}
use Rattle.event_loop.specs.declared.work.Work.{Ghosts as Work}
use Rattle.event_loop.specs.declared.work.Admitted.TheVariants.{Seated, Full, Closed}
use Rattle.event_loop.specs.declared.inbox.Handed.{Handed}
use Rattle.event_loop.specs.declared.event.Event.{Event}
use Rattle.event_loop.specs.declared.looping.EventLoop.{EventLoop}
use Rattle.event_loop.specs.declared.looping.TheConstants.{WAKER, SECOND}
use Rattle.event_loop.specs.declared.reports.TheConstants.{EVENTS}
use Rattle.event_loop.specs.Reports.{words_of}
use Rattle.event_loop.specs.Deeds.{Deed, has_more, is_end, blocker}
use Rattle.event_loop.specs.Deeds.Deed.{TookIn, MadeRoom, Heard, Noted, Drove, GaveWay, Asked, Answered, EndedTurn, Drained, Halted}

-- whether the exchange under this key is owed a turn after the deed: if it was driven, by how far, else as before
abbrev pub owes_after : Bool → ℕ → Deed → Bool
owes_after before key (Drove other driven) = cond (nat_eq other key) (has_more driven) before
owes_after before key (TookIn number admitted) = before
owes_after before key (MadeRoom there) = before
owes_after before key (Heard is_whole) = before
owes_after before key (Noted number peer told news) = before
owes_after before key (GaveWay other) = before
owes_after before key (Asked queue first) = before
owes_after before key (Answered request) = before
owes_after before key EndedTurn = before
owes_after before key Drained = before
owes_after before key Halted = before

-- so after these deeds, the newest first
abbrev pub owes : Bool → ℕ → List Deed → Bool
owes before key [] = before
owes before key (deed ∷ deeds) = owes_after (owes before key deeds) key deed

-- a turn ended among these deeds
abbrev pub ends : List Deed → Bool
ends [] = false
ends (deed ∷ deeds) = is_end deed || ends deeds

-- the exchange under this key is driven by this deed
abbrev pub drives : ℕ → Deed → Bool
drives key (Drove other driven) = nat_eq other key
drives key _ = false

-- the exchange under this key was owed a turn where the last turn ended, and has not been driven since
abbrev pub waits : ℕ → List Deed → Bool
waits key [] = false
waits key (deed ∷ deeds) = cond (is_end deed) (owes false key deeds) (cond (drives key deed) false (waits key deeds))

-- a deed may be done after those: a turn ends once each exchange was driven that was owed one where the turn before it ended, and
-- an exchange
-- gives way only to one that was driven just now, and is blocked by it
abbrev pub Follows : Deed → List Deed → Type 0
Follows EndedTurn deeds = (key : ℕ) → waits key deeds ≡ false
Follows (GaveWay other) deeds = blocker deeds ≡ Some other
Follows _ deeds = ⊤

-- so for each of these deeds
abbrev pub AreOrderly : List Deed → Type 0
AreOrderly [] = ⊤
AreOrderly (deed ∷ deeds) = Follows deed deeds × AreOrderly deeds

-- there is a mark for each key
abbrev pub IsTied : {K : Type 0} → Work K → EventLoop K → Type 0
IsTied w loop = w.bound loop.work ≤ count loop.ready

-- a work did these deeds, the newest first, and has as many keys and queues as before
pub record Works {K : Type 0} (w : Work K) (old new : K) (deeds : List Deed) : Type 0 where
  pub past : (past : List Deed) → w.past old past → w.past new (deeds ++ past)
  pub bound : w.bound new ≡ w.bound old
  pub queues : w.queues new ≡ w.queues old

-- a work did deeds, with none of which a turn ends
pub record WorksOn {K : Type 0} (w : Work K) (old new : K) : Type 0 where
  pub deeds : List Deed
  pub works : Works w old new deeds
  pub within : ends deeds ≡ false
  pub orderly : AreOrderly deeds

-- a loop ran over a work, which did deeds of which this holds, each where it may be done
pub record Ran {K : Type 0} (w : Work K) (old new : K) (Holds : List Deed → Type 0) : Type 0 where
  pub deeds : List Deed
  pub works : Works w old new deeds
  pub orderly : AreOrderly deeds
  pub holds : Holds deeds

-- within a turn, a loop had its work do these deeds, and marked whom it owes another turn
pub record Does {K : Type 0} (w : Work K) (old new : EventLoop K) (deeds : List Deed) : Type 0 where
  pub works : Works w old.work new.work deeds
  pub owed : IsTied w old → (key : ℕ) → owes (is_marked old.ready key) key deeds ≡ true → is_marked new.ready key ≡ true
  pub marks : count new.ready ≡ count old.ready
  -- no turn ended
  pub within : ends deeds ≡ false
  pub orderly : AreOrderly deeds
  -- it didn't poll
  pub reports : new.reports ≡ old.reports

-- it had its work do deeds of which this holds, where there is a mark for each key
pub record Did {K : Type 0} (w : Work K) (old new : EventLoop K) (Holds : List Deed → Type 0) : Type 0 where
  pub deeds : List Deed
  pub does : Does w old new deeds
  pub holds : IsTied w old → Holds deeds

-- answers to the administrator, which drive nobody
pub record Answers {K : Type 0} (w : Work K) (old new : K) : Type 0 where
  pub deeds : List Deed
  pub works : Works w old new deeds
  pub idle : (before : Bool) (key : ℕ) → owes before key deeds ≡ before
  pub within : ends deeds ≡ false
  pub orderly : AreOrderly deeds

-- this deed stands among those
pub record Stands (deed : Deed) (deeds : List Deed) : Type 0 where
  pub later : List Deed
  pub before : List Deed
  pub is : deeds ≡ later ++ (deed ∷ before)

-- the exchange under this key was driven
abbrev pub IsDriven : ℕ → List Deed → Type 0
IsDriven key deeds = (driven : Driven) × Stands (Drove key driven) deeds

-- one that blocks the driven exchange gives way
abbrev pub ways : Driven → List Deed
ways (Blocked other) = GaveWay other ∷ []
ways Paused = []
ways CutShort = []
ways Waiting = []
ways Over = []

-- it was driven, and then one that blocks it gave way; nothing else was done
pub record Drives (key : ℕ) (deeds : List Deed) : Type 0 where
  pub driven : Driven
  pub is : deeds ≡ ways driven ++ (Drove key driven ∷ [])

-- it was driven, or has a mark: it is driven in the next turn, before which no time is waited
abbrev pub Gets : ℕ → List Deed → ReadyList → Type 0
Gets key deeds ready = IsDriven key deeds ⊎ (is_marked ready key ≡ true)

-- after this deed, the exchange under this key gets a turn
pub record IsDue (key : ℕ) (deed : Deed) (deeds : List Deed) (ready : ReadyList) : Type 0 where
  pub later : List Deed
  pub before : List Deed
  pub is : deeds ≡ later ++ (deed ∷ before)
  pub gets : Gets key later ready

-- the event was noted, if it is of a connection, and the exchange for which it was news gets a turn after that
abbrev pub IsServed : Event → List Deed → ReadyList → Type 0
IsServed event deeds ready = (number : ℕ) (peer : Peer) → event.token ≡ 4 * number + peer_number peer
    → Stands (Noted number peer event.told None) deeds ⊎ ((key : ℕ) × IsDue key (Noted number peer event.told (Some key)) deeds ready)

-- this deed takes note of what a poll has reported
abbrev pub IsNote : Deed → Type 0
IsNote (Heard is_whole) = ⊤
IsNote (Noted number peer told news) = ⊤
IsNote _ = ⊥

-- so does each of these
abbrev pub AreNotes : List Deed → Type 0
AreNotes [] = ⊤
AreNotes (deed ∷ deeds) = IsNote deed × AreNotes deeds

-- the event was noted, if it is of a connection
abbrev pub IsNoted : Event → List Deed → Type 0
IsNoted event deeds = (number : ℕ) (peer : Peer) → event.token ≡ 4 * number + peer_number peer
    → (news : Option ℕ) × Stands (Noted number peer event.told news) deeds

-- the events were noted before anything else was done
pub record NotesFirst (events : List Event) (deeds : List Deed) : Type 0 where
  pub later : List Deed
  pub notes : List Deed
  pub is : deeds ≡ later ++ notes
  pub only : AreNotes notes
  pub each : All (λ event. IsNoted event notes) events

-- the queue was asked, and the exchange that it names gets a turn after that, if it names one of this loop: the first one in it, or one
-- that gives way to who waits in it
abbrev pub IsAsked : ℕ → List Deed → ReadyList → Type 0
IsAsked queue deeds ready = Stands (Asked queue None) deeds ⊎ ((key : ℕ) × IsDue key (Asked queue (Some key)) deeds ready)

-- the user of this number was taken in, and its exchange gets a turn after that, or it was passed on, or closed
abbrev pub IsAdmitted : ℕ → List Deed → ReadyList → Type 0
IsAdmitted number deeds ready = ((key : ℕ) × IsDue key (TookIn number (Seated key)) deeds ready)
    ⊎ ((user : Handed) × Stands (TookIn number (Full user)) deeds)
    ⊎ Stands (TookIn number Closed) deeds

-- each event was served, and where the loop wasn't woken none of them says that it was
pub record AreServed (events : List Event) (woken : Bool) (deeds : List Deed) (ready : ReadyList) : Type 0 where
  pub served : All (λ event. IsServed event deeds ready) events
  pub woke : woken ≡ false → All (λ event. event.token ≡ WAKER.0 → ⊥) events

-- one of the events says that the loop was woken
abbrev pub IsWoken : List Event → Type 0
IsWoken events = All (λ event. event.token ≡ WAKER.0 → ⊥) events → ⊥

-- what a loop does in a turn whose poll has reported these events
pub record Serves {K : Type 0} (w : Work K) (old new : EventLoop K) (events : List Event) (deeds : List Deed) : Type 0 where
  -- each exchange that was owed a turn is driven
  pub ready : (key : ℕ) → is_marked old.ready key ≡ true → IsDriven key deeds
  -- all events are noted before anybody is driven
  pub first : NotesFirst events deeds
  -- each event is served
  pub served : All (λ event. IsServed event deeds new.ready) events
  -- where one of them says that the loop was woken, each queue is asked, and who it names gets a turn
  pub asked : IsWoken events → (queue : ℕ) → queue < w.queues old.work → IsAsked queue deeds new.ready

-- the second of the loop's clock
abbrev pub second : {K : Type 0} → EventLoop K → ℕ
second loop = loop.elapsed / SECOND

-- the old loop, once the poll has reported what the new one knows
abbrev pub polled : {K : Type 0} → (old new : EventLoop K) → EventLoop K
polled old new = record old { reports = new.reports }

-- what a round does: it polls, and serves a turn
pub record ServesRound {K : Type 0} (w : Work K) (old new : EventLoop K) (deeds : List Deed) : Type 0 where
  -- that of the events that its poll has reported
  pub turn : Serves w old new (map words_of (items new.reports.events)) deeds
  -- its work was told whether the poll has reported all: it has where there was room for more
  pub told : Stands (Heard (nat_lt (length (items new.reports.events)) EVENTS)) deeds
  -- once a second begins, each exchange gets a turn
  pub seconds : (second new ≡ second old → ⊥) → (key : ℕ) → key < w.bound old.work → Gets key deeds new.ready
