-- Which exchanges give way to others, and which users are spared for others.
use Rattle.std.specs.Prelude.{◌≡◌, ℕ, ◌-◌, Bool, true, false, ◌&&◌, if◌then◌else◌, Option, Some, None, IsSomeAnd}
use Rattle.slab.specs.Slab.{get}
use Rattle.event_loop.specs.Sparing.{IsRank}
use Rattle.event_loop.specs.declared.sparing.Stay.{Stay}
use Rattle.event_loop.specs.declared.sparing.Stay.TheVariants.{Ended}
use Rattle.trace_core.specs.declared.history.Point.{Point}
use Rattle.shard_desk.specs.declared.seat.Purpose.{Purpose}
use Rattle.shard_desk.specs.declared.seat.Purpose.TheVariants.{Requests, Refusal}
use Rattle.shard_desk.specs.declared.seat.Seat.{Seat}
use Rattle.shard_desk.specs.declared.seats.Seats.{Seats}

-- the requests of the user are served
abbrev pub is_served : Purpose → Bool
is_served Requests = true
is_served Refusal = false

-- an event has said that the user has ended its bytes, or that its connection is gone both ways
abbrev pub has_ended : Option Seat → Bool
has_ended None = false
has_ended (Some seat) = seat.ended

abbrev pub is_gone : Option Seat → Bool
is_gone None = false
is_gone (Some seat) = seat.gone

-- what a user's connection is in the midst of, as far as it may be spared: one that is served and has ended its bytes goes first
abbrev pub stay_of : Seat → Stay
stay_of seat = if seat.ended && is_served seat.purpose then Ended else seat.stay

-- the user under this key may be spared with this rank at this moment, in milliseconds
abbrev pub HasRank : Seats → (key millis youth rank : ℕ) → Type 0
HasRank seats key millis youth rank = IsSomeAnd (get seats.all key) (λ seat. IsRank (stay_of seat) (millis - seat.came) youth rank)

-- the exchange under this key gives way to one that wants a connection to the service of this point: it has one, and its user has ended its
-- bytes
abbrev pub GivesWay : Seats → Point → (key : ℕ) → Type 0
GivesWay seats point key = IsSomeAnd (get seats.all key) (λ seat. (seat.leases ≡ Some point) × (seat.ended ≡ true))
