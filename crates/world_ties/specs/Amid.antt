-- A held byte's script amid the events of all other transactions.
use Rattle.std.specs.Prelude.{◌≡◌, ℕ, ◌==◌, false, ⊤, List, [], ◌∷◌, ◌++◌}
use Rattle.trace_core.specs.declared.history.Event.{Event}
use Rattle.trace_core.specs.History.{is_retry}
use Rattle.world_core.specs.declared.event.WorldEvent.{WorldEvent}
use Rattle.world_core.specs.declared.event.WorldEvent.TheVariants.{Lease, Open, Of, Back, Reclaim, Close, Limit, Capacity}
use Rattle.world_core.specs.WorldHistory.{Setting}
use Rattle.world_core.specs.WorldFaults.{IsLegalWorld}

-- an event of another transaction, of a pool, or of the whole budget
abbrev pub IsOfOthers : ℕ → WorldEvent → Type 0
IsOfOthers t (Lease u s) = (u == t) ≡ false
IsOfOthers t (Open u plan claim) = (u == t) ≡ false
IsOfOthers t (Of u event) = (u == t) ≡ false
IsOfOthers t (Back u kept) = (u == t) ≡ false
IsOfOthers t (Reclaim u claim) = (u == t) ≡ false
IsOfOthers t (Close u) = (u == t) ≡ false
IsOfOthers t (Limit s n) = ⊤
IsOfOthers t (Capacity n) = ⊤

-- each of them is
abbrev pub AreOfOthers : ℕ → List WorldEvent → Type 0
AreOfOthers t [] = ⊤
AreOfOthers t (event ∷ before) = IsOfOthers t event × AreOfOthers t before

-- any event of the transaction but a lease, its beginning, and a retry
abbrev pub IsOfItself : ℕ → WorldEvent → Type 0
IsOfItself t (Of u event) = (u ≡ t) × (is_retry event ≡ false)
IsOfItself t (Back u kept) = u ≡ t
IsOfItself t (Reclaim u claim) = u ≡ t
IsOfItself t (Close u) = u ≡ t
IsOfItself t _ = ⊥

-- the transaction's events, one after the other: none of them is refused, whatever others do before it
abbrev pub GoesOnAmid : Setting → ℕ → List WorldEvent → List Event → Type 0
GoesOnAmid w t before [] = ⊤
GoesOnAmid w t before (event ∷ script) =
    (others : List WorldEvent) → AreOfOthers t others → IsLegalWorld w (others ++ before)
    → IsLegalWorld w (Of t event ∷ others ++ before) × GoesOnAmid w t (Of t event ∷ others ++ before) script
