-- A held byte's script as calls of its own transaction: what they ask for, and what they do to the bank.
use Rattle.std.specs.Prelude.{◌≡◌, ℕ, ◌<◌, ◌≤◌, ◌⊎◌, false, ⊤, List, [], ◌∷◌, Option, Some, None, take, drop}
use Rattle.trace_core.specs.declared.history.Plan.{Plan}
use Rattle.trace_core.specs.declared.history.Event.{Event}
use Rattle.trace_core.specs.declared.tape.Tape.{Tape}
use Rattle.trace_core.specs.declared.tape.Tape.TheVariants.{Original, Adapted}
use Rattle.trace_core.specs.History.{is_retry}
use Rattle.trace_core.specs.Legal.{MayFollow, open_preview}
use Rattle.trace_core.specs.Held.{IsIn, Sends, held_places}
use Rattle.plan_rules.specs.Claims.{claim_of, least_claim}
use Rattle.plan_rules.specs.declared.limits.Limits.{Limits}
use Rattle.span_bank.specs.declared.step.BankStep.{BankStep}
use Rattle.span_bank.specs.declared.step.BankStep.TheVariants as bank
use Rattle.span_bank.specs.Stakes.{CountsIn}
use Rattle.span_bank.specs.State.{Budget, MaySum, Fits}
use Rattle.adapt_hold.specs.Spans.{Span}
use Rattle.adapt_hold.specs.Holding.{Holding, Brings, BringsNone, moved, shows, shows_then, byte_at, interval}
use Rattle.adapt_hold.specs.Steps.{brought}
use Rattle.world_ties.specs.BankTie.{held_step, step_if}

-- a preview that isn't full, of a body that goes on, fits the reservation (RFC 3507, section 4.5)
abbrev pub IsWide : Holding → Type 0
IsWide h =
    (size : ℕ) → open_preview (shows h.history) ≡ Some size
    → (shows h.history).ended ≡ false → (shows h.history).received < size
    → least_claim h.history.plan ≤ h.claim

-- what `put_in` asks for: the event's bytes, and room for them where the event may follow
abbrev pub MayPutIn : Holding → Event → List ℕ → Type 0
MayPutIn h event bytes =
    Brings event bytes
    × (MayFollow h.history.plan h.history.events event → held_places (shows_then h.history event) ≤ h.claim)

-- what `move_on` asks for: an event without bytes
abbrev pub MayMoveOn : Event → List ℕ → Type 0
MayMoveOn event bytes = BringsNone event × (bytes ≡ [])

-- one of the two calls may be made, and takes the event
abbrev pub IsTaken : Holding → Event → List ℕ → Type 0
IsTaken h event bytes =
    MayFollow h.history.plan h.history.events event × (MayPutIn h event bytes ⊎ MayMoveOn event bytes)

-- what `Hold::new` makes
abbrev pub new_holding : Plan → Limits → Holding
new_holding plan limits = record {
  history = record { plan = plan; events = [] };
  limits = limits;
  original = record { base = 0; bytes = [] };
  adapted = record { base = 0; bytes = [] };
  held = 0;
  claim = claim_of plan limits.window;
}

-- a new holding after these events, each taken with its bytes, the newest first
abbrev pub IsReached : Plan → Limits → List (Event × List ℕ) → Holding → Type 0
IsReached plan limits [] h = h ≡ new_holding plan limits
IsReached plan limits (taken ∷ before) h =
    (old : Holding) × IsReached plan limits before old
    × IsTaken old taken.0 taken.1 × (h ≡ moved old taken.0 taken.1)

-- the bank takes the step, whatever its totals are: they only count the reservation
abbrev pub AnyBankTakes : ℕ → ℕ → Option BankStep → Type 0
AnyBankTakes held claim None = ⊤
AnyBankTakes held claim (Some step) =
    (v : Budget) (pages : ℕ) → CountsIn v.journal.numbers (record { held = held; claim = claim; pages = pages })
    → MaySum v.journal.numbers step × Fits v step

-- a call's steps of the bank: the bytes held change, and then the reservation falls
pub record BankTakes (old new : Holding) : Type 0 where
  pub held : AnyBankTakes old.held old.claim (held_step old.held new.held)
  pub claim : AnyBankTakes new.held old.claim (step_if (bank.Reclaim old.claim new.claim))

-- the events are taken one after the other, each with those of the bytes that it brings; none is a retry, and whatever
-- others did before it, the bank takes its steps
abbrev pub RunsAlone : Holding → List Event → List ℕ → Type 0
RunsAlone h [] bytes = ⊤
RunsAlone h (event ∷ script) bytes =
    (is_retry event ≡ false)
    × IsTaken h event (take (brought event) bytes)
    × BankTakes h (moved h event (take (brought event) bytes))
    × RunsAlone (moved h event (take (brought event) bytes)) script (drop (brought event) bytes)

-- one of the two tapes
abbrev pub tape_of : Tape → Holding → Span
tape_of Original h = h.original
tape_of Adapted h = h.adapted

-- the last of the events sends the place of a tape, and this byte is there then
abbrev pub SendsByte : Tape → ℕ → ℕ → Holding → List Event → List ℕ → Type 0
SendsByte tape place byte h [] bytes = ⊥
SendsByte tape place byte h (event ∷ []) bytes =
    Sends tape (shows h.history) event place
    × IsIn (interval (tape_of tape h)) place
    × (byte_at (tape_of tape h) place ≡ byte)
SendsByte tape place byte h (event ∷ next ∷ script) bytes =
    SendsByte tape place byte (moved h event (take (brought event) bytes)) (next ∷ script) (drop (brought event) bytes)
