-- The bank's steps are the world's events.
use Rattle.std.proofs.Common.{◌≡◌, ℕ, ◌+◌, ◌≤◌, Bool, true, false, not, ◌||◌, ◌&&◌, List, [], ◌∷◌, ◌++◌, Option, Some, None, IfSome, arith}
use Rattle.std.proofs.Common.{refl, ap, ◌∙◌}
use Rattle.std.specs.Prelude.{◌==◌, nat_lt, cond, is_some, sum_by}
use Rattle.std.proofs.lemmas.Bool.Decides.{nat_tests}
use Rattle.std.proofs.lemmas.Bool.{cond_both, eq-eqb}
use Rattle.std.proofs.lemmas.List.Sums.{sum_by_push}
use Rattle.trace_core.specs.declared.history.Event.{Event}
use Rattle.trace_core.specs.declared.history.Plan.{Plan}
use Rattle.trace_core.specs.declared.history.Seen.{Seen}
use Rattle.trace_core.specs.Held.{held_places}
use Rattle.trace_core.specs.Faults.{is_early}
use Rattle.plan_rules.specs.Claims.{least_claim}
use Rattle.world_core.specs.declared.event.WorldEvent.{WorldEvent}
use Rattle.world_core.specs.declared.event.WorldEvent.TheVariants.{Lease, Open, Of, Back, Reclaim, Close, Limit, Capacity}
use Rattle.world_core.specs.declared.event.WorldFault.TheVariants.{Twice, NoRoom, OverClaim, NotClosed}
use Rattle.world_core.specs.declared.leases.LeaseState.{LeaseState}
use Rattle.world_core.specs.WorldHistory.{Setting, Opened, open_at, opened, was_opened, claimed, claim_in, capacity_of, lease_of}
use Rattle.world_core.specs.WorldHistory.{with_event, with_claim}
use Rattle.world_core.specs.WorldFaults.{IsLegalWorld, shown, opened_event_fault, opened_claim_fault, opened_close_fault, found_at}
use Rattle.world_core.specs.WorldSound.{held_at, held_in}
use Rattle.world_core.proofs.Standing.{Sane, stands, row_1, row_3}
use Rattle.world_core.proofs.Claiming.{in_opened, sum_less}
use Rattle.world_core.proofs.Showing.{opened_apart}
use Rattle.span_bank.specs.declared.step.Numbers.{Numbers}
use Rattle.world_ties.specs.BankTie.{row_in, rows_in}
use Rattle.world_ties.proofs.Summing.{sum_unless, sum_changed}

-- An open transaction is one that was opened.

-- a transaction that is open was opened at some time
pub was_open : (t : ℕ) (events : List WorldEvent) → is_some (open_at t events) ≡ true → was_opened t events ≡ true
was_open t [] h = absurd cc
was_open t (Open u plan claim ∷ before) h = by_case (u == t) (open_at t before) (was_opened t before) h (was_open t before)
  where
    by_case : (b : Bool) (x : Option Opened) (o : Bool)
        → is_some (cond b (Some (record { plan = plan; part = []; claim = claim })) x) ≡ true → (is_some x ≡ true → o ≡ true)
        → (b || o) ≡ true
    by_case true x o h rest = refl
    by_case false x o h rest = rest h
was_open t (Of u event ∷ before) h = was_open t before (by_case (u == t) (open_at t before) h)
  where
    by_case : (b : Bool) (x : Option Opened) → is_some (cond b (with_event event x) x) ≡ true → is_some x ≡ true
    by_case true None h = h
    by_case true (Some o) h = refl
    by_case false x h = h
was_open t (Reclaim u claim ∷ before) h = was_open t before (by_case (u == t) (open_at t before) h)
  where
    by_case : (b : Bool) (x : Option Opened) → is_some (cond b (with_claim claim x) x) ≡ true → is_some x ≡ true
    by_case true None h = h
    by_case true (Some o) h = refl
    by_case false x h = h
was_open t (Close u ∷ before) h = was_open t before (by_case (u == t) (open_at t before) h)
  where
    by_case : (b : Bool) (x : Option Opened) → is_some (cond b None x) ≡ true → is_some x ≡ true
    by_case true x h = absurd cc
    by_case false x h = h
was_open t (Lease u s ∷ before) h = was_open t before h
was_open t (Back u kept ∷ before) h = was_open t before h
was_open t (Limit s n ∷ before) h = was_open t before h
was_open t (Capacity n ∷ before) h = was_open t before h

-- The sums before and after an event of one transaction.

-- at its own number a changed transaction is found
at_own : (u : ℕ) (x y : Option Opened) → cond (u == u) x y ≡ x
at_own u x y = cond_both (u == u) x y (λ o. o ≡ x) (λ yes. refl) (λ no. let yes = eq-eqb u u refl in absurd cc)

-- where the number is another a transaction is found as it was
at_other : (b : Bool) (x y : Option Opened) → b ≡ false → cond b x y ≡ y
at_other true x y e = absurd cc
at_other false x y e = refl

-- what is said of each transaction, once one that is open is changed
pub changed_sum : (w : Setting) (u : ℕ) (before : List WorldEvent) (f : Option Opened → ℕ) (c : Option Opened → Option Opened)
    → IsLegalWorld w before → is_some (open_at u before) ≡ true
    → sum_by (λ t. f (cond (u == t) (c (open_at t before)) (open_at t before))) (opened before) + f (open_at u before)
    ≡ sum_by (λ t. f (open_at t before)) (opened before) + f (c (open_at u before))
changed_sum w u before f c l o =
    let new : ℕ → ℕ = λ t. f (cond (u == t) (c (open_at t before)) (open_at t before)) in
    let old : ℕ → ℕ = λ t. f (open_at t before) in
    let sums = sum_changed u new old (opened before) (opened_apart w before l) (in_opened u before ∙ was_open u before o)
    (λ t no. ap f (at_other (u == t) (c (open_at t before)) (open_at t before) no)) in
    let own = ap f (at_own u (c (open_at u before)) (open_at u before)) in
    omega arith

-- the same once one is opened that never was
pub opened_sum : (u : ℕ) (before : List WorldEvent) (f : Option Opened → ℕ) (o : Opened) → was_opened u before ≡ false
    → sum_by (λ t. f (cond (u == t) (Some o) (open_at t before))) (opened before ++ u ∷ [])
    ≡ sum_by (λ t. f (open_at t before)) (opened before) + f (Some o)
opened_sum u before f o n =
    let new : ℕ → ℕ = λ t. f (cond (u == t) (Some o) (open_at t before)) in
    let old : ℕ → ℕ = λ t. f (open_at t before) in
    let all = sum_by_push new (opened before) u in
    let rest = sum_unless u new old (opened before) (in_opened u before ∙ n)
    (λ t no. ap f (at_other (u == t) (Some o) (open_at t before) no)) in
    let own = ap f (at_own u (Some o) (open_at u before)) in
    omega arith

-- Totals are the same where their numbers are.
pub same_numbers : (a b : Numbers) → a.rows ≡ b.rows → a.held ≡ b.held → a.claimed ≡ b.claimed → a.capacity ≡ b.capacity → a ≡ b
same_numbers a b r h k m =
    ap (λ (n : ℕ). record { rows = n; held = a.held; claimed = a.claimed; capacity = a.capacity }) r
    ∙ ap (λ (n : ℕ). record { rows = b.rows; held = n; claimed = a.claimed; capacity = a.capacity }) h
    ∙ ap (λ (n : ℕ). record { rows = b.rows; held = b.held; claimed = n; capacity = a.capacity }) k
    ∙ ap (λ (n : ℕ). record { rows = b.rows; held = b.held; claimed = b.claimed; capacity = n }) m

-- what is held of the open transactions is within what they claim

-- after a legal history all places held are together within all claims
pub held_within : (w : Setting) (events : List WorldEvent) → IsLegalWorld w events → held_in events ≤ claimed events
held_within w events l =
    sum_less (λ t. held_at (open_at t events)) (λ t. claim_in (open_at t events)) (opened events)
    (λ t. one (lease_of t events) (open_at t events) (stands w t events l))
  where
    one : (lease : Option ℕ) (o : Option Opened) → IfSome o (Sane lease) → held_at o ≤ claim_in o
    one lease None s = omega arith
    one lease (Some o) s = s.within

-- An event that is taken is of an open transaction.

-- an event of a message that isn't refused is of an open transaction
pub open_event : (o : Option Opened) (found : LeaseState) (e : Event) → opened_event_fault o found e ≡ None → is_some o ≡ true
open_event None found e f = absurd cc
open_event (Some o) found e f = refl

-- another claim that isn't refused is of an open transaction
pub open_claim : (o : Option Opened) (claim : ℕ) → opened_claim_fault o claim ≡ None → is_some o ≡ true
open_claim None claim f = absurd cc
open_claim (Some o) claim f = refl

-- an end that isn't refused is of an open transaction
pub open_close : (o : Option Opened) → opened_close_fault o ≡ None → is_some o ≡ true
open_close None f = absurd cc
open_close (Some o) f = refl

-- a claim that is taken is at most the old one
pub lower : (o : Option Opened) (claim : ℕ) → opened_claim_fault o claim ≡ None → claim ≤ claim_in o
lower None claim f = absurd cc
lower (Some o) claim f =
    at_most (held_places (shown o)) o.claim claim (is_early (shown o) && nat_lt claim (least_claim o.plan))
    (row_1 (nat_lt claim (held_places (shown o)) || nat_lt o.claim claim || (is_early (shown o) && nat_lt claim (least_claim o.plan)))
    OverClaim f)
  where
    at_most : (held old new : ℕ) (b : Bool) → (nat_lt new held || nat_lt old new || b) ≡ false → new ≤ old
    at_most held old new b f = grind (arith, nat_tests)

-- what is done or has failed holds nothing
none_held : (x : Seen) → x.closed ≡ true → held_places x ≡ 0
none_held x c = grind (arith, nat_tests)

-- a transaction whose end isn't refused holds nothing
closed_holds : (o : Option Opened) → opened_close_fault o ≡ None → held_at o ≡ 0
closed_holds None f = refl
closed_holds (Some o) f = none_held (shown o) (is_so (shown o).closed (row_1 (not (shown o).closed) NotClosed f))
  where
    is_so : (b : Bool) → not b ≡ false → b ≡ true
    is_so true h = refl
    is_so false h = absurd cc

-- The totals after each event, by those before it.

-- a message's event leaves its transaction open or not, as it was
row_event : (e : Event) (o : Option Opened) → row_in (with_event e o) ≡ row_in o
row_event e None = refl
row_event e (Some o) = refl

-- a message's event leaves its transaction's claim as it was
claim_event : (e : Event) (o : Option Opened) → claim_in (with_event e o) ≡ claim_in o
claim_event e None = refl
claim_event e (Some o) = refl

-- another claim leaves its transaction open or not, as it was
row_claim : (claim : ℕ) (o : Option Opened) → row_in (with_claim claim o) ≡ row_in o
row_claim claim None = refl
row_claim claim (Some o) = refl

-- another claim leaves its transaction as many places held
held_claim : (claim : ℕ) (o : Option Opened) → held_at (with_claim claim o) ≡ held_at o
held_claim claim None = refl
held_claim claim (Some o) = refl

-- an open transaction with another claim reserves just that
own_claim : (claim : ℕ) (o : Option Opened) → is_some o ≡ true → claim_in (with_claim claim o) ≡ claim
own_claim claim None h = absurd cc
own_claim claim (Some o) h = refl

-- an open transaction is one row
row_open : (o : Option Opened) → is_some o ≡ true → row_in o ≡ 1
row_open None h = absurd cc
row_open (Some o) h = refl

-- how the totals change, whatever the event
pub record Changed (w : Setting) (before : List WorldEvent) (event : WorldEvent) (rows rows_off held held_off claim claim_off : ℕ) : Type 0
  where
    pub rows_are : rows_in (event ∷ before) + rows_off ≡ rows_in before + rows
    pub held_is : held_in (event ∷ before) + held_off ≡ held_in before + held
    pub claimed_is : claimed (event ∷ before) + claim_off ≡ claimed before + claim

-- an opening that is taken adds one row and its claim to the totals, and nothing held
pub by_open : (w : Setting) (before : List WorldEvent) (t claim : ℕ) (plan : Plan) → IsLegalWorld w (Open t plan claim ∷ before)
    → Changed w before (Open t plan claim) 1 0 0 0 claim 0
by_open w before t claim plan l =
    let row = row_3 (was_opened t before) (nat_lt claim (least_claim plan))
    (nat_lt (capacity_of w.capacity before) (claimed before + claim)) Twice OverClaim NoRoom l.0 in
    let o : Opened = record { plan = plan; part = []; claim = claim } in
    let rows = opened_sum t before row_in o row.0 in
    let held = opened_sum t before held_at o row.0 in
    let claims = opened_sum t before claim_in o row.0 in
    let nothing : held_at (Some o) ≡ 0 = none plan in
    record { rows_are = omega arith; held_is = omega arith; claimed_is = omega arith }
  where
    none : (plan : Plan) → held_at (Some (record { plan = plan; part = []; claim = claim })) ≡ 0
    none plan = grind (arith, nat_tests)

-- a message's event that is taken changes no total but what is held, and that by its own change
pub by_event : (w : Setting) (before : List WorldEvent) (t : ℕ) (e : Event) → IsLegalWorld w (Of t e ∷ before)
    → Changed w before (Of t e) 0 0 (held_at (with_event e (open_at t before))) (held_at (open_at t before)) 0 0
by_event w before t e l =
    let o = open_event (open_at t before) (found_at w t before) e l.0 in
    let rows = changed_sum w t before row_in (with_event e) l.1 o in
    let held = changed_sum w t before held_at (with_event e) l.1 o in
    let claims = changed_sum w t before claim_in (with_event e) l.1 o in
    let same_row = row_event e (open_at t before) in
    let same_claim = claim_event e (open_at t before) in
    record { rows_are = omega arith; held_is = omega arith; claimed_is = omega arith }

-- another claim that is taken changes no total but what is claimed, and that by its own change
pub by_claim : (w : Setting) (before : List WorldEvent) (t claim : ℕ) → IsLegalWorld w (Reclaim t claim ∷ before)
    → Changed w before (Reclaim t claim) 0 0 0 0 claim (claim_in (open_at t before))
by_claim w before t claim l =
    let o = open_claim (open_at t before) claim l.0 in
    let rows = changed_sum w t before row_in (with_claim claim) l.1 o in
    let held = changed_sum w t before held_at (with_claim claim) l.1 o in
    let claims = changed_sum w t before claim_in (with_claim claim) l.1 o in
    let same_row = row_claim claim (open_at t before) in
    let same_held = held_claim claim (open_at t before) in
    let own = own_claim claim (open_at t before) o in
    record { rows_are = omega arith; held_is = omega arith; claimed_is = omega arith }

-- an end that is taken takes one row and its claim off the totals, and nothing held
pub by_close : (w : Setting) (before : List WorldEvent) (t : ℕ) → IsLegalWorld w (Close t ∷ before)
    → Changed w before (Close t) 0 1 0 0 0 (claim_in (open_at t before))
by_close w before t l =
    let o = open_close (open_at t before) l.0 in
    let rows = changed_sum w t before row_in (λ x. None) l.1 o in
    let held = changed_sum w t before held_at (λ x. None) l.1 o in
    let claims = changed_sum w t before claim_in (λ x. None) l.1 o in
    let one = row_open (open_at t before) o in
    let nothing = closed_holds (open_at t before) l.0 in
    record { rows_are = omega arith; held_is = omega arith; claimed_is = omega arith }
