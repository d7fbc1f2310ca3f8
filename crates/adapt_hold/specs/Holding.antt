-- What a transaction holds: its history, the bytes that are kept, and its reservation; and one step of it.
use Rattle.std.specs.Prelude.{◌≡◌, ℕ, ◌+◌, ◌-◌, ◌≤◌, false, ⊤, List, [], ◌∷◌, ◌++◌, length, get_or}
use Rattle.trace_core.specs.declared.history.Event.{Event}
use Rattle.trace_core.specs.declared.history.Event.TheVariants.{In, Ad}
use Rattle.trace_core.specs.Faults.{chooses_original}
use Rattle.trace_core.specs.declared.history.Seen.{Seen}
use Rattle.trace_core.specs.History.{History, seen, in_bytes, ad_bytes}
pub use Rattle.trace_core.specs.History.{shows}
use Rattle.trace_core.specs.Legal.{IsLegal, MayFollow}
use Rattle.trace_core.specs.Norm.{norm}
use Rattle.trace_core.specs.Held.{original_from, adapted_from, held_original, held_adapted, original_places, adapted_places, held_places}
use Rattle.plan_rules.specs.declared.limits.Limits.{Limits}
use Rattle.plan_rules.specs.Room.{claim_then}
use Rattle.adapt_hold.specs.Spans.{Span, span_end, span_from}

pub record Holding : Type 0 where
  pub history : History
  pub limits : Limits
  pub original : Span
  pub adapted : Span
  -- the reservation: its bytes in use, and its size
  pub held : ℕ
  pub claim : ℕ

abbrev pub interval : Span → ℕ × ℕ
interval t = (t.base, span_end t)

-- the tapes are the held intervals, and the reservation is charged with just their bytes
pub record IsTied (h : Holding) : Type 0 where
  pub legal : IsLegal h.history.plan h.history.events
  pub original : interval h.original ≡ held_original (shows h.history)
  pub adapted : interval h.adapted ≡ held_adapted (shows h.history)
  pub held : h.held ≡ length h.original.bytes + length h.adapted.bytes
  pub within : h.held ≤ h.claim

-- the body bytes that an event brings to each tape
abbrev pub original_in : Event → List ℕ → List ℕ
original_in (In n) bytes = bytes
original_in _ bytes = []

abbrev pub adapted_in : Event → List ℕ → List ℕ
adapted_in (Ad n) bytes = bytes
adapted_in _ bytes = []

-- an event with just the bytes that it counts
abbrev pub Brings : Event → List ℕ → Type 0
Brings (In n) bytes = length bytes ≡ n
Brings (Ad n) bytes = length bytes ≡ n
Brings _ bytes = ⊥

abbrev pub IsIn : Event → Type 0
IsIn (In n) = ⊤
IsIn _ = ⊥

-- an event that brings no bytes
abbrev pub BringsNone : Event → Type 0
BringsNone (In n) = ⊥
BringsNone (Ad n) = ⊥
BringsNone _ = ⊤

-- an event with just the bytes that it counts, if any
abbrev pub Carries : Event → List ℕ → Type 0
Carries event bytes = (length (original_in event bytes) ≡ in_bytes event) × (length (adapted_in event bytes) ≡ ad_bytes event)

-- bytes come at the end, and those below a place are let go
abbrev pub then_from : Span → List ℕ → ℕ → Span
then_from t bytes place = span_from (record t { bytes = t.bytes ++ bytes }) place

abbrev pub history_then : History → Event → History
history_then history event = record { plan = history.plan; events = norm (event ∷ history.events) }

-- what is seen once the event stands
abbrev pub shows_then : History → Event → Seen
shows_then history event = seen history.plan (event ∷ history.events)

-- one step
abbrev pub moved : Holding → Event → List ℕ → Holding
moved h event bytes = record {
  history = history_then h.history event;
  limits = h.limits;
  original = then_from h.original (original_in event bytes) (original_from (shows_then h.history event));
  adapted = then_from h.adapted (adapted_in event bytes) (adapted_from (shows_then h.history event));
  held = held_places (shows_then h.history event);
  claim = claim_then (shows_then h.history event) event h.claim h.limits.window;
}

-- an event took a holding to another
abbrev pub Took : Holding → Event → List ℕ → Holding → Type 0
Took old event bytes new = MayFollow old.history.plan old.history.events event × (new ≡ moved old event bytes)

-- the byte at a place of a tape
abbrev pub byte_at : Span → ℕ → ℕ
byte_at t place = get_or t.bytes (place - t.base) 0

-- where an adapted body may come, a window is left for it beside the original
abbrev pub IsRoomy : Holding → Type 0
IsRoomy h =
    (shows h.history).closed ≡ false → chooses_original (shows h.history) ≡ false
    → (original_places (shows h.history) + h.limits.window ≤ h.claim) × (adapted_places (shows h.history) ≤ h.limits.window)
