-- Several events in a row, with the bytes that they bring.
use Rattle.std.specs.Prelude.{ℕ, ◌+◌, ◌≤◌, ⊤, List, [], ◌∷◌, length, take, drop}
use Rattle.trace_core.specs.declared.history.Event.{Event}
use Rattle.trace_core.specs.declared.history.Seen.{Seen}
use Rattle.trace_core.specs.History.{History, in_bytes, ad_bytes}
use Rattle.trace_core.specs.View.{after}
use Rattle.plan_rules.specs.Room.{IsWithinRoom, claim_then}
use Rattle.trace_core.specs.Turns.{MayAllFollow}
use Rattle.adapt_hold.specs.Holding.{Holding, IsRoomy, shows, moved, history_then}

-- the body bytes that an event brings
abbrev pub brought : Event → ℕ
brought event = in_bytes event + ad_bytes event

abbrev pub brought_all : List Event → ℕ
brought_all [] = 0
brought_all (event ∷ events) = brought event + brought_all events

-- each brings no more than its room
abbrev pub HasRoomFor : Seen → ℕ → ℕ → ℕ → List Event → Type 0
HasRoomFor x claim window turn [] = ⊤
HasRoomFor x claim window turn (event ∷ events) =
    IsWithinRoom x claim window turn event × HasRoomFor (after x event) (claim_then (after x event) event claim window) window turn events

-- a holding after several events; the bytes are those of all of them, one after the other
abbrev pub moved_all : Holding → List Event → List ℕ → Holding
moved_all h [] bytes = h
moved_all h (event ∷ events) bytes = moved_all (moved h event (take (brought event) bytes)) events (drop (brought event) bytes)

abbrev pub history_all : History → List Event → History
history_all history [] = history
history_all history (event ∷ events) = history_all (history_then history event) events

-- events that may follow, whose bytes come first of these, and within their room
pub record MayRun (h : Holding) (events : List Event) (bytes : List ℕ) : Type 0 where
  pub may : MayAllFollow (shows h.history) events
  pub carried : brought_all events ≤ length bytes
  pub room : HasRoomFor (shows h.history) h.claim h.limits.window h.limits.turn events
  pub roomy : IsRoomy h
