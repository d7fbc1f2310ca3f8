-- Events in a row, and which of them a turn of a side steps.
use Rattle.std.specs.Prelude.{◌≡◌, ℕ, ◌≤◌, ◌||◌, Bool, true, false, List, [], ◌∷◌, length}
use Rattle.trace_core.specs.declared.history.Event.{Event}
use Rattle.trace_core.specs.declared.history.Event.TheVariants.{Fail}
use Rattle.trace_core.specs.Turns.{AllAre, is_of_source, is_of_sending, is_of_replies, is_of_hop}
use Rattle.wire_kit.specs.Past.{Past}
use Rattle.adapt_hold.specs.Holding.{Holding, Took}
use Rattle.adapt_turn.specs.declared.turn.Side.{Side}
use Rattle.adapt_turn.specs.declared.turn.Side.TheVariants.{Source, Service, NextHop}
use Rattle.adapt_turn.specs.ByteCounts.{bytes_between}

abbrev pub is_fail : Event → Bool
is_fail (Fail cause) = true
is_fail _ = false

abbrev pub is_of_side : Side → Event → Bool
is_of_side Source event = is_of_source event
is_of_side Service event = is_of_sending event || is_of_replies event
is_of_side NextHop event = is_of_hop event

-- what a turn of a side may step: an event of that side, or Fail, which is of no wire
abbrev pub may_step : Side → Event → Bool
may_step side event = is_fail event || is_of_side side event

-- these events took a holding to another, each in its turn
abbrev pub TookAll : Holding → List Event → Holding → Type 0
TookAll old [] new = new ≡ old
TookAll old (event ∷ events) new = (bytes : List ℕ) × (mid : Holding) × Took old event bytes mid × TookAll mid events new

-- events that pass the test took it there
abbrev pub TookBy : (Event → Bool) → Holding → Holding → Type 0
TookBy test old new = (events : List Event) × AllAre test events × TookAll old events new

-- at least one did
abbrev pub Advances : (Event → Bool) → Holding → Holding → Type 0
Advances test old new = (event : Event) × (events : List Event) × AllAre test (event ∷ events) × TookAll old (event ∷ events) new

-- a byte went over the wire, or this is so
abbrev pub BytesOr : Type 0 → (before after : Past → Type 0) → Type 0
BytesOr this before after =
    (p : Past) → before p → (q : Past) × after q × (length p.read ≤ length q.read) × (length p.taken ≤ length q.taken)
    × (bytes_between p q ≡ 0 → this)
