-- The sums over a world's open transactions as the totals of a bank, and the events of the world as the bank's steps.
use Rattle.std.specs.Prelude.{ℕ, ◌-◌, ◌≤◌, ◌<◌, nat_lt, ⊤, List, [], ◌∷◌, ◌++◌, Option, Some, None, sum_by, if◌then◌else◌}
use Rattle.trace_core.specs.declared.history.Event.{Event}
use Rattle.trace_core.specs.declared.history.Event.TheVariants.{In, End, Stop, Heard, NoMod, Ad, Done, Retry}
use Rattle.trace_core.specs.Held.{keeps_original}
use Rattle.world_core.specs.declared.event.WorldEvent.{WorldEvent}
use Rattle.world_core.specs.declared.event.WorldEvent.TheVariants.{Lease, Open, Of, Back, Reclaim, Close, Limit, Capacity}
use Rattle.world_core.specs.WorldHistory.{Setting, Opened, open_at, opened, claimed, claim_in, capacity_of, with_event}
use Rattle.world_core.specs.WorldFaults.{shown}
use Rattle.world_core.specs.WorldSound.{held_at, held_in}
use Rattle.span_bank.specs.declared.limits.TheConstants.{MAX_CAPACITY, MAX_ROWS}
use Rattle.span_bank.specs.declared.step.Numbers.{Numbers}
use Rattle.span_bank.specs.declared.step.BankStep.{BankStep}
use Rattle.span_bank.specs.declared.step.BankStep.TheVariants as bank
use Rattle.span_bank.specs.State.{is_step}

-- an open transaction is one reservation
abbrev pub row_in : Option Opened → ℕ
row_in None = 0
row_in (Some o) = 1

-- the number of open transactions
abbrev pub rows_in : List WorldEvent → ℕ
rows_in events = sum_by (λ t. row_in (open_at t events)) (opened events)

-- what a world's open transactions come to, as the totals of a bank
abbrev pub book : Setting → List WorldEvent → Numbers
book w events = record { rows = rows_in events; held = held_in events; claimed = claimed events; capacity = capacity_of w.capacity events }

-- more bytes held are a Grow, fewer a Shrink, each by the difference; as many are no step
abbrev pub held_step : ℕ → ℕ → Option BankStep
held_step old new =
    if nat_lt old new then Some (bank.Grow (new - old))
    else if nat_lt new old then Some (bank.Shrink (old - new))
    else None

-- what the bank takes for a step
abbrev pub step_if : BankStep → Option BankStep
step_if step = if is_step step then Some step else None

-- the step of the bank that an event is, after these ones
abbrev pub bank_step : List WorldEvent → WorldEvent → Option BankStep
bank_step before (Open t plan claim) = Some (bank.Open claim)
bank_step before (Of t event) = held_step (held_at (open_at t before)) (held_at (with_event event (open_at t before)))
bank_step before (Reclaim t claim) = step_if (bank.Reclaim (claim_in (open_at t before)) claim)
bank_step before (Close t) = Some (bank.Close (claim_in (open_at t before)))
bank_step before (Capacity n) = Some (bank.Capacity n)
bank_step before (Lease t s) = None
bank_step before (Back t kept) = None
bank_step before (Limit s n) = None

-- a step, if there is one, after others
abbrev pub with_step : List BankStep → Option BankStep → List BankStep
with_step steps None = steps
with_step steps (Some step) = steps ++ step ∷ []

-- the steps of the bank in a history, the oldest first
abbrev pub bank_steps : List WorldEvent → List BankStep
bank_steps [] = []
bank_steps (event ∷ before) = with_step (bank_steps before) (bank_step before event)

-- a claim and a capacity are numbers that a bank takes
abbrev pub IsBankEvent : WorldEvent → Type 0
IsBankEvent (Open t plan claim) = 1 ≤ claim
IsBankEvent (Capacity n) = (1 ≤ n) × (n ≤ MAX_CAPACITY)
IsBankEvent _ = ⊤

-- where a transaction is opened, fewer are open than a bank may have rows
abbrev pub HasRow : List WorldEvent → WorldEvent → Type 0
HasRow before (Open t plan claim) = rows_in before < MAX_ROWS
HasRow before _ = ⊤

-- so it is all along
abbrev pub AreBankEvents : List WorldEvent → Type 0
AreBankEvents [] = ⊤
AreBankEvents (event ∷ before) = IsBankEvent event × HasRow before event × AreBankEvents before

-- how many bytes an event of the message brings that are kept
abbrev pub brings : Opened → Event → ℕ
brings o (In n) = if keeps_original (shown o) then n else 0
brings o (Ad n) = n
brings o _ = 0

-- the event leaves as many bytes held as there are
abbrev pub IsQuiet : Event → Type 0
IsQuiet End = ⊤
IsQuiet Stop = ⊤
IsQuiet Heard = ⊤
IsQuiet NoMod = ⊤
IsQuiet Done = ⊤
IsQuiet Retry = ⊤
IsQuiet _ = ⊥
