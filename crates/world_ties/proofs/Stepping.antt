-- Each event of the world that is taken is one step of the bank, or none.
use Rattle.std.proofs.Common.{◌≡◌, ℕ, ◌+◌, ◌-◌, ◌<◌, ◌≤◌, Bool, true, false, List, [], ◌∷◌, ◌++◌, length, Option, Some, None, IfSome, arith}
use Rattle.std.proofs.Common.{refl, sym, subst, ap, ◌∙◌}
use Rattle.std.specs.Prelude.{◌==◌, nat_lt, cond, ◌↔◌}
use Rattle.std.proofs.lemmas.Bool.Decides.{nat_tests}
use Rattle.std.proofs.lemmas.Bool.{cond_both, ltb-false, eqb-true}
use Rattle.trace_core.specs.declared.history.Plan.{Plan}
use Rattle.plan_rules.specs.Claims.{least_claim}
use Rattle.world_core.specs.declared.event.WorldEvent.{WorldEvent}
use Rattle.world_core.specs.declared.event.WorldEvent.TheVariants.{Lease, Open, Of, Back, Reclaim, Close, Limit, Capacity}
use Rattle.world_core.specs.declared.event.WorldFault.TheVariants.{Twice, NoRoom, OverClaim, TooLow}
use Rattle.world_core.specs.WorldHistory.{Setting, open_at, was_opened, claimed, claim_in, capacity_of, with_event}
use Rattle.world_core.specs.WorldFaults.{IsLegalWorld, world_fault, first_of}
use Rattle.world_core.specs.WorldSound.{held_at}
use Rattle.world_core.proofs.Standing.{row_1, row_3}
use Rattle.span_bank.specs.declared.limits.TheConstants.{MAX_CAPACITY, MAX_ROWS}
use Rattle.span_bank.specs.declared.step.Numbers.{Numbers}
use Rattle.span_bank.specs.declared.step.BankStep.{BankStep}
use Rattle.span_bank.specs.declared.step.BankStep.TheVariants as bank
use Rattle.span_bank.specs.declared.step.OpenFault.TheVariants.{Full}
use Rattle.span_bank.specs.Replay.{after, replay}
use Rattle.span_bank.specs.Journal.{Journaled, IsAllowed, AreAllowed, rebased, shortened, slid, stepped}
use Rattle.span_bank.specs.History.{HasLast}
use Rattle.span_bank.specs.State.{Budget, MaySum, Fits, Refuses, none_open}
use Rattle.world_ties.specs.BankTie.{book, held_step, step_if, bank_step, bank_steps, with_step, IsBankEvent, HasRow, AreBankEvents}
use Rattle.world_ties.proofs.Banked.{by_open, by_event, by_claim, by_close, held_within, same_numbers, lower}

-- the totals after a step, if there is one
abbrev pub after_step : Numbers → Option BankStep → Numbers
after_step b None = b
after_step b (Some step) = after b step

-- totals that differ only by a change of what one reservation holds are those after that change's step
held_law : (b c : Numbers) (old new : ℕ) → c.rows ≡ b.rows → c.held + old ≡ b.held + new → c.claimed ≡ b.claimed → c.capacity ≡ b.capacity
    → after_step b (held_step old new) ≡ c
held_law b c old new r h k m =
    cond_both (nat_lt old new) (Some (bank.Grow (new - old))) (cond (nat_lt new old) (Some (bank.Shrink (old - new))) None)
    (λ step. after_step b step ≡ c)
    (λ more. same_numbers (after b (bank.Grow (new - old))) c (sym r) (grind (arith, nat_tests)) (sym k) (sym m))
    (λ no. cond_both (nat_lt new old) (Some (bank.Shrink (old - new))) None (λ step. after_step b step ≡ c)
    (λ less. same_numbers (after b (bank.Shrink (old - new))) c (sym r) (grind (arith, nat_tests)) (sym k) (sym m))
    (λ as_many. same_numbers b c (sym r) (grind (arith, nat_tests)) (sym k) (sym m)))

-- totals that differ only by the fall of one claim are those after its step
claim_law : (b c : Numbers) (old new : ℕ) → new ≤ old → c.rows ≡ b.rows → c.held ≡ b.held → c.claimed + old ≡ b.claimed + new
    → c.capacity ≡ b.capacity
    → after_step b (step_if (bank.Reclaim old new)) ≡ c
claim_law b c old new l r h k m = by_case (old == new) refl
  where
    by_case : (same : Bool) → (old == new) ≡ same → after_step b (cond (cond same false true) (Some (bank.Reclaim old new)) None) ≡ c
    by_case true e = same_numbers b c (sym r) (sym h) (let own = eqb-true old new e in omega arith) (sym m)
    by_case false e = same_numbers (after b (bank.Reclaim old new)) c (sym r) (sym h) (omega arith) (sym m)

-- so the bank goes with the world
pub goes_with : (w : Setting) (before : List WorldEvent) (event : WorldEvent) → IsLegalWorld w (event ∷ before)
    → after_step (book w before) (bank_step before event) ≡ book w (event ∷ before)
goes_with w before (Open t plan claim) l =
    let c = by_open w before t claim plan l in
    let rows = c.rows_are in let held = c.held_is in let claims = c.claimed_is in
    same_numbers (after (book w before) (bank.Open claim)) (book w (Open t plan claim ∷ before)) (omega arith) (omega arith) (omega arith)
    refl
goes_with w before (Of t e) l =
    let c = by_event w before t e l in
    let rows = c.rows_are in let claims = c.claimed_is in
    held_law (book w before) (book w (Of t e ∷ before)) (held_at (open_at t before)) (held_at (with_event e (open_at t before)))
    (omega arith) c.held_is (omega arith) refl
goes_with w before (Reclaim t claim) l =
    let c = by_claim w before t claim l in
    let rows = c.rows_are in let held = c.held_is in
    claim_law (book w before) (book w (Reclaim t claim ∷ before)) (claim_in (open_at t before)) claim (lower (open_at t before) claim l.0)
    (omega arith) (omega arith) c.claimed_is refl
goes_with w before (Close t) l =
    let c = by_close w before t l in
    let rows = c.rows_are in let held = c.held_is in let claims = c.claimed_is in
    same_numbers (after (book w before) (bank.Close (claim_in (open_at t before)))) (book w (Close t ∷ before)) (omega arith) (omega arith)
    (omega arith) refl
goes_with w before (Capacity n) l = refl
goes_with w before (Lease t s) l = refl
goes_with w before (Back t kept) l = refl
goes_with w before (Limit s n) l = refl

-- the step that a taken event is leaves the bank with the totals that the world then has
pub step_goes : (w : Setting) (before : List WorldEvent) (event : WorldEvent) (step : BankStep) → IsLegalWorld w (event ∷ before)
    → bank_step before event ≡ Some step
    → after (book w before) step ≡ book w (event ∷ before)
step_goes w before event step l e = subst (λ (o : Option BankStep). after_step (book w before) o ≡ book w (event ∷ before)) e
    (goes_with w before event l)

-- an event that is no step of the bank leaves the world's totals as they were
pub none_stays : (w : Setting) (before : List WorldEvent) (event : WorldEvent) → IsLegalWorld w (event ∷ before)
    → bank_step before event ≡ None → book w before ≡ book w (event ∷ before)
none_stays w before event l e = subst (λ (o : Option BankStep). after_step (book w before) o ≡ book w (event ∷ before)) e
    (goes_with w before event l)

-- making room in a journal changes no total

-- a full journal that lets its oldest step go has the same totals
pub slid_keeps : (j : Journaled) → (slid j).numbers ≡ j.numbers
slid_keeps j = by_case (length j.steps == j.room)
  where
    first : (steps : List BankStep) → (shortened j steps).numbers ≡ j.numbers
    first [] = refl
    first (s ∷ ss) = refl

    by_case : (b : Bool) → (cond b (shortened j j.steps) j).numbers ≡ j.numbers
    by_case true = first j.steps
    by_case false = refl

-- a full journal that starts empty from its present totals has the same ones
pub rebased_keeps : (j : Journaled) → (rebased j).numbers ≡ j.numbers
rebased_keeps j = by_case (length j.steps == j.room)
  where
    by_case : (b : Bool) → (cond b (record j { base = j.numbers; steps = [] }) j).numbers ≡ j.numbers
    by_case true = refl
    by_case false = refl

-- a journal with the world's totals still has them after a taken event's step, whichever way it makes room
pub journals_go : (w : Setting) (before : List WorldEvent) (event : WorldEvent) (step : BankStep) (j : Journaled)
    → IsLegalWorld w (event ∷ before) → bank_step before event ≡ Some step
    → j.numbers ≡ book w before → ((stepped slid j step).numbers ≡ book w (event ∷ before))
    × ((stepped rebased j step).numbers ≡ book w (event ∷ before))
journals_go w before event step j l e h =
    let goes = step_goes w before event step l e in
    (ap (λ b. after b step) (slid_keeps j ∙ h) ∙ goes, ap (λ b. after b step) (rebased_keeps j ∙ h) ∙ goes)

-- The sums allow the step.

-- the sums allow the step of a change after which what is held is within what is claimed
held_may : (b c : Numbers) (old new : ℕ) → c.held + old ≡ b.held + new → c.held ≤ b.claimed → IfSome (held_step old new) (MaySum b)
held_may b c old new h l =
    cond_both (nat_lt old new) (Some (bank.Grow (new - old))) (cond (nat_lt new old) (Some (bank.Shrink (old - new))) None)
    (λ step. IfSome step (MaySum b))
    (λ more. (grind (arith, nat_tests), grind (arith, nat_tests)))
    (λ no. cond_both (nat_lt new old) (Some (bank.Shrink (old - new))) None (λ step. IfSome step (MaySum b))
    (λ less. (grind (arith, nat_tests), grind (arith, nat_tests))) (λ as_many. tt))

-- the sums allow the step of a claim's fall after which what is held is within what is claimed
claim_may : (b : Numbers) (old new : ℕ) → new ≤ old → b.held + old ≤ b.claimed + new → IfSome (step_if (bank.Reclaim old new)) (MaySum b)
claim_may b old new l h = by_case (old == new)
  where
    by_case : (same : Bool) → IfSome (cond (cond same false true) (Some (bank.Reclaim old new)) None) (MaySum b)
    by_case true = tt
    by_case false = (l, h)

-- a claim that the world opens is within what the others leave of the capacity
room_for : (w : Setting) (before : List WorldEvent) (t claim : ℕ) (plan : Plan) → IsLegalWorld w (Open t plan claim ∷ before)
    → claimed before + claim ≤ capacity_of w.capacity before
room_for w before t claim plan l =
    ltb-false (capacity_of w.capacity before) (claimed before + claim)
    (row_3 (was_opened t before) (nat_lt claim (least_claim plan)) (nat_lt (capacity_of w.capacity before) (claimed before + claim)) Twice
    OverClaim NoRoom l.0).2

-- the sums allow the step of a taken event, if any, whose claim or capacity a bank takes
pub may_sum : (w : Setting) (before : List WorldEvent) (event : WorldEvent) → IsLegalWorld w (event ∷ before) → IsBankEvent event
    → IfSome (bank_step before event) (MaySum (book w before))
may_sum w before (Open t plan claim) l i = i
may_sum w before (Of t e) l i =
    let c = by_event w before t e l in
    let claims = c.claimed_is in
    let within = held_within w (Of t e ∷ before) l in
    held_may (book w before) (book w (Of t e ∷ before)) (held_at (open_at t before)) (held_at (with_event e (open_at t before))) c.held_is
    (omega arith)
may_sum w before (Reclaim t claim) l i =
    let c = by_claim w before t claim l in
    let held = c.held_is in let claims = c.claimed_is in
    let within = held_within w (Reclaim t claim ∷ before) l in
    claim_may (book w before) (claim_in (open_at t before)) claim (lower (open_at t before) claim l.0) (omega arith)
may_sum w before (Close t) l i =
    let c = by_close w before t l in
    let rows = c.rows_are in let held = c.held_is in let claims = c.claimed_is in
    let within = held_within w (Close t ∷ before) l in
    (omega arith, omega arith)
may_sum w before (Capacity n) l i = (i.0, i.1, ltb-false n (claimed before) (row_1 (nat_lt n (claimed before)) TooLow l.0))
may_sum w before (Lease t s) l i = tt
may_sum w before (Back t kept) l i = tt
may_sum w before (Limit s n) l i = tt

-- the sums allow a step that is that of a taken event whose claim or capacity a bank takes
pub may_sum_step : (w : Setting) (before : List WorldEvent) (event : WorldEvent) (step : BankStep) → IsLegalWorld w (event ∷ before)
    → IsBankEvent event → bank_step before event ≡ Some step
    → MaySum (book w before) step
may_sum_step w before event step l i e = subst (λ (o : Option BankStep). IfSome o (MaySum (book w before))) e (may_sum w before event l i)

-- and it fits

-- a claim within the capacity; of every other step nothing
abbrev HasRoom : Numbers → BankStep → Type 0
HasRoom b (bank.Open claim) = b.claimed + claim ≤ b.capacity
HasRoom b _ = Unit {0}

-- a change of what is held, or of a claim, opens nothing
held_free : (P : BankStep → Type 0) (old new : ℕ) → ((n : ℕ) → P (bank.Grow n)) → ((n : ℕ) → P (bank.Shrink n))
    → IfSome (held_step old new) P
held_free P old new grow shrink =
    cond_both (nat_lt old new) (Some (bank.Grow (new - old))) (cond (nat_lt new old) (Some (bank.Shrink (old - new))) None)
    (λ step. IfSome step P)
    (λ more. grow (new - old))
    (λ no. cond_both (nat_lt new old) (Some (bank.Shrink (old - new))) None (λ step. IfSome step P) (λ less. shrink (old - new))
    (λ as_many. tt))

-- what holds of a claim's fall holds of its step, if there is one
claim_free : (P : BankStep → Type 0) (old new : ℕ) → P (bank.Reclaim old new) → IfSome (step_if (bank.Reclaim old new)) P
claim_free P old new reclaim = by_case (old == new)
  where
    by_case : (same : Bool) → IfSome (cond (cond same false true) (Some (bank.Reclaim old new)) None) P
    by_case true = tt
    by_case false = reclaim

-- a claim that a taken event opens is, together with those before it, within the capacity of the totals
has_room : (w : Setting) (before : List WorldEvent) (event : WorldEvent) → IsLegalWorld w (event ∷ before)
    → IfSome (bank_step before event) (HasRoom (book w before))
has_room w before (Open t plan claim) l = room_for w before t claim plan l
has_room w before (Of t e) l = held_free (HasRoom (book w before)) (held_at (open_at t before)) (held_at (with_event e (open_at t before)))
    (λ n. tt) (λ n. tt)
has_room w before (Reclaim t claim) l = claim_free (HasRoom (book w before)) (claim_in (open_at t before)) claim tt
has_room w before (Close t) l = tt
has_room w before (Capacity n) l = tt
has_room w before (Lease t s) l = tt
has_room w before (Back t kept) l = tt
has_room w before (Limit s n) l = tt

-- a step that has its room in the totals fits a budget with a row free
fits_by : (v : Budget) (step : BankStep) → HasRoom v.journal.numbers step → v.journal.numbers.rows < v.most_rows → Fits v step
fits_by v (bank.Open claim) room row = (room, row)
fits_by v (bank.Grow n) room row = tt
fits_by v (bank.Shrink n) room row = tt
fits_by v (bank.Reclaim old new) room row = tt
fits_by v (bank.Close claim) room row = tt
fits_by v (bank.Capacity n) room row = tt

-- the step of an event that is taken fits a budget with the world's totals and a row free
pub step_fits : (w : Setting) (before : List WorldEvent) (event : WorldEvent) (step : BankStep) (v : Budget)
    → IsLegalWorld w (event ∷ before) → bank_step before event ≡ Some step
    → v.journal.numbers ≡ book w before → v.journal.numbers.rows < v.most_rows → Fits v step
step_fits w before event step v l e h r =
    let room = subst (λ (o : Option BankStep). IfSome o (HasRoom (book w before))) e (has_room w before event l) in
    fits_by v step (subst (λ (b : Numbers). HasRoom b step) (sym h) room) r

-- and a row is free for it

abbrev IsRowFor : Numbers → BankStep → Type 0
IsRowFor b (bank.Open claim) = b.rows < MAX_ROWS
IsRowFor b _ = Unit {0}

-- a transaction that is opened while a row is free in the world has one free in the totals
has_row : (w : Setting) (before : List WorldEvent) (event : WorldEvent) → HasRow before event
    → IfSome (bank_step before event) (IsRowFor (book w before))
has_row w before (Open t plan claim) r = r
has_row w before (Of t e) r = held_free (IsRowFor (book w before)) (held_at (open_at t before)) (held_at (with_event e (open_at t before)))
    (λ n. tt) (λ n. tt)
has_row w before (Reclaim t claim) r = claim_free (IsRowFor (book w before)) (claim_in (open_at t before)) claim tt
has_row w before (Close t) r = tt
has_row w before (Capacity n) r = tt
has_row w before (Lease t s) r = tt
has_row w before (Back t kept) r = tt
has_row w before (Limit s n) r = tt

-- a step that the sums allow, and that has room and a row, is allowed by the totals
allowed_by : (b : Numbers) (step : BankStep) → MaySum b step → HasRoom b step → IsRowFor b step → IsAllowed b step
allowed_by b (bank.Open claim) may room row = (may, room, row)
allowed_by b (bank.Grow n) may room row = may
allowed_by b (bank.Shrink n) may room row = may
allowed_by b (bank.Reclaim old new) may room row = may
allowed_by b (bank.Close claim) may room row = may
allowed_by b (bank.Capacity n) may room row = may

-- a step that may be there is allowed by the totals if the sums allow it and it has room and a row
all_of : (b : Numbers) (o : Option BankStep) → IfSome o (MaySum b) → IfSome o (HasRoom b) → IfSome o (IsRowFor b) → IfSome o (IsAllowed b)
all_of b None may room row = tt
all_of b (Some step) may room row = allowed_by b step may room row

-- The whole history.

-- totals after steps and one more are those after the steps, and then after that one
replay_push : (b : Numbers) (steps : List BankStep) (step : BankStep) → replay b (steps ++ step ∷ []) ≡ after (replay b steps) step
replay_push b [] step = refl
replay_push b (s ∷ steps) step = replay_push (after b s) steps step

-- totals after steps and one that may be there are those after the steps, and then after that, if any
replay_with : (b : Numbers) (steps : List BankStep) (o : Option BankStep) → replay b (with_step steps o) ≡ after_step (replay b steps) o
replay_with b steps None = refl
replay_with b steps (Some step) = replay_push b steps step

-- a legal history's steps lead a bank with no reservation to the totals that the world has
pub replays : (w : Setting) (events : List WorldEvent) → IsLegalWorld w events
    → replay (none_open w.capacity) (bank_steps events) ≡ book w events
replays w [] l = refl
replays w (event ∷ before) l =
    replay_with (none_open w.capacity) (bank_steps before) (bank_step before event)
    ∙ ap (λ (b : Numbers). after_step b (bank_step before event)) (replays w before l.1)
    ∙ goes_with w before event l

-- steps that are allowed are so with one more that is allowed after them
allowed_push : (b : Numbers) (steps : List BankStep) (step : BankStep) → AreAllowed b steps → IsAllowed (replay b steps) step
    → AreAllowed b (steps ++ step ∷ [])
allowed_push b [] step all m = (m, tt)
allowed_push b (s ∷ steps) step all m = (all.0, allowed_push (after b s) steps step all.1 m)

-- steps that are allowed are so with one that may be there, if it is allowed after them
allowed_with : (b : Numbers) (steps : List BankStep) (o : Option BankStep) → AreAllowed b steps → IfSome o (IsAllowed (replay b steps))
    → AreAllowed b (with_step steps o)
allowed_with b steps None all m = all
allowed_with b steps (Some step) all m = allowed_push b steps step all m

-- a bank allows each step of a legal history where it stands, if its numbers and rows are such as it takes
pub all_allowed : (w : Setting) (events : List WorldEvent) → IsLegalWorld w events → AreBankEvents events
    → AreAllowed (none_open w.capacity) (bank_steps events)
all_allowed w [] l a = tt
all_allowed w (event ∷ before) l a =
    let own = all_of (book w before) (bank_step before event) (may_sum w before event l a.0) (has_room w before event l)
    (has_row w before event a.1) in
    allowed_with (none_open w.capacity) (bank_steps before) (bank_step before event) (all_allowed w before l.1 a.2)
    (subst (λ (b : Numbers). IfSome (bank_step before event) (IsAllowed b)) (sym (replays w before l.1)) own)

-- a journal that has the last of a legal history's steps has the totals of the world
pub journal_shows : (w : Setting) (events : List WorldEvent) (j : Journaled) → IsLegalWorld w events
    → HasLast (none_open w.capacity) (bank_steps events) j → j.numbers ≡ book w events
journal_shows w events j l h = h.numbers ∙ replays w events l

-- Want of room is one condition.

-- the row of a new opening with at least its least claim is NoRoom just where the sum is above the room
full_row : (twice : Bool) (claim least room sum : ℕ) → twice ≡ false → least ≤ claim
    → ((first_of ((twice, Twice) ∷ (nat_lt claim least, OverClaim) ∷ (nat_lt room sum, NoRoom) ∷ []) ≡ Some NoRoom) ↔ (room < sum))
full_row twice claim least room sum t l = grind (arith, nat_tests)

-- a new opening with at least its least claim is refused with NoRoom just where the bank is full, by the same sum
pub full_where : (w : Setting) (before : List WorldEvent) (t claim sum : ℕ) (plan : Plan) (v : Budget) → v.journal.numbers ≡ book w before
    → was_opened t before ≡ false → least_claim plan ≤ claim
    → (((world_fault w before (Open t plan claim) ≡ Some NoRoom) × (sum ≡ claimed before)) ↔ Refuses v (bank.Open claim) (Full sum))
full_where w before t claim sum plan v h n l =
    let row = full_row (was_opened t before) claim (least_claim plan) (capacity_of w.capacity before) (claimed before + claim) n l in
    let sums : v.journal.numbers.claimed ≡ claimed before = ap (λ (b : Numbers). b.claimed) h in
    let most : v.journal.numbers.capacity ≡ capacity_of w.capacity before = ap (λ (b : Numbers). b.capacity) h in (
      λ f. let over = row.0 f.0 in let own = f.1 in (omega arith, omega arith),
      λ r. let own = r.0 in let over = r.1 in (row.1 (omega arith), omega arith),
    )

-- a capacity's row is TooLow just where it is below the sum
low_row : (n sum : ℕ) → ((first_of ((nat_lt n sum, TooLow) ∷ []) ≡ Some TooLow) ↔ (n < sum))
low_row n sum = grind (arith, nat_tests)

-- a capacity is refused with TooLow exactly where it is below what is claimed
pub too_low_where : (w : Setting) (before : List WorldEvent) (n : ℕ)
    → ((world_fault w before (Capacity n) ≡ Some TooLow) ↔ (n < (book w before).claimed))
too_low_where w before n = low_row n (claimed before)

-- a capacity's row is without fault just where it is at least the sum
high_row : (n sum : ℕ) → ((first_of ((nat_lt n sum, TooLow) ∷ []) ≡ None) ↔ (sum ≤ n))
high_row n sum = grind (arith, nat_tests)

-- a capacity that a bank may have is taken by the world exactly where the sums allow its step
pub low_where : (w : Setting) (before : List WorldEvent) (n : ℕ) → 1 ≤ n → n ≤ MAX_CAPACITY
    → ((world_fault w before (Capacity n) ≡ None) ↔ MaySum (book w before) (bank.Capacity n))
low_where w before n one most =
    let row = high_row n (claimed before) in
    (λ f. (one, most, row.0 f), λ may. row.1 may.2)
