-- Events in a row.
use Rattle.std.specs.Prelude.{◌≡◌, ℕ, zero, suc, Bool, true, false, ◌||◌, List, [], ◌∷◌, ◌++◌, Option, Some, None}
use Rattle.trace_core.specs.declared.history.Event.{Event}
use Rattle.trace_core.specs.declared.history.Event.TheVariants.{Ad, AdEnd}
use Rattle.trace_core.specs.declared.history.Seen.{Seen}
use Rattle.trace_core.specs.History.{is_no_mod, is_mod}
pub use Rattle.trace_core.specs.Legal.{MayCome}
pub use Rattle.trace_core.specs.Turns.{after_all, MayAllFollow, AllAre, ad_sum, is_of_sending, is_of_replies}
pub use Rattle.adapt_sides.specs.Tapes.{Follows}

-- the event may come next, and a byte of a reply was read before it
abbrev pub MayHear : Seen → Event → Type 0
MayHear x event = (x.heard ≡ true) × MayCome x event

-- a final response
abbrev pub is_final : Event → Bool
is_final event = is_no_mod event || is_mod event

-- an event, if there is one
abbrev pub listed : Option Event → List Event
listed None = []
listed (Some event) = event ∷ []

-- this many bytes of the adapted body, if any
abbrev pub ad_events : ℕ → List Event
ad_events zero = []
ad_events (suc n) = Ad (suc n) ∷ []

-- and then its end, if it has come
abbrev pub adapted_events : ℕ → Bool → List Event
adapted_events n false = ad_events n
adapted_events n true = ad_events n ++ AdEnd ∷ []
