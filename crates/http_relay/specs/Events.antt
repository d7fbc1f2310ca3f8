-- The events that report what was read of a body.
use Rattle.std.specs.Prelude.{ℕ, zero, suc, Bool, true, false, List, [], ◌∷◌, ◌++◌}
use Rattle.trace_core.specs.declared.history.Event.{Event}
use Rattle.trace_core.specs.declared.history.Event.TheVariants.{In, End}

-- this many bytes of the body, if any
abbrev pub in_events : ℕ → List Event
in_events zero = []
in_events (suc n) = In (suc n) ∷ []

-- and then its end, if it has come
abbrev pub source_events : ℕ → Bool → List Event
source_events n false = in_events n
source_events n true = in_events n ++ End ∷ []
