-- Each event of the world that is taken is one step of its service's pool, or none.
use Rattle.std.proofs.Common.{◌≡◌, ℕ, ◌+◌, ◌<◌, ◌≤◌, Bool, true, false, ◌&&◌, List, [], ◌∷◌, ◌++◌, length, Option, Some, None, IfSome}
use Rattle.std.proofs.Common.{arith, refl, sym, subst, ap, ◌∙◌}
use Rattle.std.specs.Prelude.{◌==◌, nat_lt, nat_le, cond, is_some, is_none, ◌↔◌, option_map, slice_get, IsSomeAnd}
use Rattle.std.proofs.lemmas.Bool.Decides.{nat_tests}
use Rattle.std.proofs.lemmas.Bool.{ltb-false, eqb-true}
use Rattle.trace_core.specs.declared.history.Event.{Event}
use Rattle.trace_core.specs.declared.history.Event.TheVariants.{Retry}
use Rattle.trace_core.specs.declared.history.StepFault.{StepFault}
use Rattle.trace_core.specs.declared.history.Seen.{Seen}
use Rattle.trace_core.specs.History.{is_retry}
use Rattle.trace_core.specs.Faults.{first_fault}
use Rattle.trace_core.specs.Held.{held_places}
use Rattle.trace_core.specs.View.{after as seen_after}
use Rattle.world_core.specs.declared.event.WorldEvent.{WorldEvent}
use Rattle.world_core.specs.declared.event.WorldEvent.TheVariants.{Lease, Open, Of, Back, Reclaim, Close, Limit, Capacity}
use Rattle.world_core.specs.declared.event.WorldFault.TheVariants.{UnknownService, HasLease, PoolFull, NoLease, NotReused, OverClaim}
use Rattle.world_core.specs.declared.leases.LeaseState.{LeaseState}
use Rattle.world_core.specs.WorldHistory.{Setting, Opened, open_at, lease_of, is_reused, pool_of, is_service, empty_pool, taken, put_back}
use Rattle.world_core.specs.WorldHistory.{limited}
use Rattle.world_core.specs.WorldHistory as world
use Rattle.world_core.specs.WorldFaults.{IsLegalWorld, world_fault, shown, first_of, step_first, event_fault, opened_event_fault, found_at}
use Rattle.world_core.specs.WorldFaults.{lease_state, is_full, is_crowded, needs_lease}
use Rattle.world_core.proofs.Standing.{row_3, rows_of}
use Rattle.world_core.proofs.Leasing.{pool_leased}
use Rattle.service_pool.specs.declared.step.Numbers.{Numbers}
use Rattle.service_pool.specs.declared.step.PoolStep.{PoolStep}
use Rattle.service_pool.specs.declared.step.PoolStep.TheVariants as pool
use Rattle.service_pool.specs.Replay.{after, replay, open_count}
use Rattle.service_pool.specs.Journal.{Journaled, IsAllowed, AreAllowed, rebased, shortened, slid, stepped}
use Rattle.service_pool.specs.History.{HasLast}
use Rattle.service_pool.specs.Pooled.{Pooled, IsKept, IsBusy, none_open}
use Rattle.world_ties.specs.PoolTie.{numbers_of, back_step, pool_step, pool_steps, with_step, IsPoolEvent, ArePoolEvents}

-- the numbers after a step, if there is one
abbrev pub after_step : Numbers → Option PoolStep → Numbers
after_step n None = n
after_step n (Some step) = after n step

-- One step on one pool.

-- a take from a pool that isn't full leaves the numbers that a lease of the world leaves
take_goes : (p : world.Numbers) → is_full (Some p) ≡ false → after (numbers_of p) pool.Take ≡ numbers_of (taken p)
take_goes p f = by_idle (p.idle == 0) refl
  where
    below : (idle leased most : ℕ) → (idle == 0) ≡ true → ((idle == 0) && nat_le most (idle + leased)) ≡ false → nat_lt leased most ≡ true
    below idle leased most e f = grind (arith, nat_tests)

    by_idle : (b : Bool) → (p.idle == 0) ≡ b → after (numbers_of p) pool.Take ≡ numbers_of (taken p)
    by_idle true e = rw (e, below p.idle p.leased p.maximum e f) (ap (λ (n : ℕ).
        record { idle = n; leased = p.leased + 1; maximum = p.maximum }) (eqb-true p.idle 0 e))
    by_idle false e = rw e refl

-- a connection that is put or given up leaves the numbers that its return in the world leaves
put_goes : (p : world.Numbers) (kept : Bool) → after (numbers_of p) (back_step kept) ≡ numbers_of (put_back kept p)
put_goes p true = by_room (nat_le (p.idle + p.leased) p.maximum) refl
  where
    by_room : (b : Bool) → nat_le (p.idle + p.leased) p.maximum ≡ b → after (numbers_of p) (back_step true) ≡ numbers_of (put_back true p)
    by_room true e = rw e refl
    by_room false e = rw e refl
put_goes p false = refl

-- The pool that an event finds, and the one that it leaves.

-- a pool after an event that may change it
leaves : (b : Bool) (f : world.Numbers → world.Numbers) (o : Option world.Numbers) (p q : world.Numbers) → o ≡ Some p
    → cond b (option_map f o) o ≡ Some q → cond b (f p) p ≡ q
leaves b f o p q e h = by_case b (subst (λ (x : Option world.Numbers). cond b (option_map f x) x ≡ Some q) e h)
  where
    same : (p q : world.Numbers) → Some p ≡ Some q → p ≡ q
    same p q e = cc

    by_case : (b : Bool) → cond b (option_map f (Some p)) (Some p) ≡ Some q → cond b (f p) p ≡ q
    by_case true h = same (f p) q h
    by_case false h = same p q h

-- two pools that are found at one place are the same
stays : (o : Option world.Numbers) (p q : world.Numbers) → o ≡ Some p → o ≡ Some q → p ≡ q
stays o p q e h = same p q (sym e ∙ h)
  where
    same : (p q : world.Numbers) → Some p ≡ Some q → p ≡ q
    same p q e = cc

-- a step where the event is of this pool
goes_if : (b : Bool) (step : PoolStep) (f : world.Numbers → world.Numbers) (p : world.Numbers)
    → (b ≡ true → after (numbers_of p) step ≡ numbers_of (f p))
    → after_step (numbers_of p) (cond b (Some step) None) ≡ numbers_of (cond b (f p) p)
goes_if true step f p h = h refl
goes_if false step f p h = refl

-- a lease that is taken finds the pool of its service not full
not_full : (w : Setting) (before : List WorldEvent) (t u s : ℕ) (p : world.Numbers) → IsLegalWorld w (Lease t u ∷ before)
    → pool_of w.maxima s before ≡ Some p → (u == s) ≡ true → is_full (Some p) ≡ false
not_full w before t u s p l e b =
    let row = row_3 (is_none (pool_of w.maxima u before)) (is_some (lease_of t before)) (is_full (pool_of w.maxima u before)) UnknownService
    HasLease PoolFull l.0 in
    let here = subst (λ (v : ℕ). is_full (pool_of w.maxima v before) ≡ false) (eqb-true u s b) row.2 in
    subst (λ (o : Option world.Numbers). is_full o ≡ false) e here

-- after a taken event's step, if there is one, a service's pool has the numbers that the world then has
pub goes_with : (w : Setting) (before : List WorldEvent) (event : WorldEvent) (s : ℕ) (p q : world.Numbers)
    → IsLegalWorld w (event ∷ before) → pool_of w.maxima s before ≡ Some p
    → pool_of w.maxima s (event ∷ before) ≡ Some q → after_step (numbers_of p) (pool_step s before event) ≡ numbers_of q
goes_with w before (Lease t u) s p q l e h =
    goes_if (u == s) pool.Take taken p (λ b. take_goes p (not_full w before t u s p l e b))
    ∙ ap numbers_of (leaves (u == s) taken (pool_of w.maxima s before) p q e h)
goes_with w before (Of t event) s p q l e h = replaced (is_retry event && is_service s (lease_of t before))
    ∙ ap numbers_of (stays (pool_of w.maxima s before) p q e h)
  where
    replaced : (b : Bool) → after_step (numbers_of p) (cond b (Some pool.Replace) None) ≡ numbers_of p
    replaced true = refl
    replaced false = refl
goes_with w before (Back t kept) s p q l e h =
    let here = is_service s (lease_of t before) in
    goes_if here (back_step kept) (put_back kept) p (λ b. put_goes p kept)
    ∙ ap numbers_of (leaves here (put_back kept) (pool_of w.maxima s before) p q e h)
goes_with w before (Limit u n) s p q l e h =
    goes_if (u == s) (pool.Limit n) (limited n) p (λ b. refl) ∙ ap numbers_of
    (leaves (u == s) (limited n) (pool_of w.maxima s before) p q e h)
goes_with w before (Open t plan claim) s p q l e h = ap numbers_of (stays (pool_of w.maxima s before) p q e h)
goes_with w before (Reclaim t claim) s p q l e h = ap numbers_of (stays (pool_of w.maxima s before) p q e h)
goes_with w before (Close t) s p q l e h = ap numbers_of (stays (pool_of w.maxima s before) p q e h)
goes_with w before (Capacity n) s p q l e h = ap numbers_of (stays (pool_of w.maxima s before) p q e h)

-- the step that a taken event is leaves a service's pool with the numbers that the world then has
pub step_goes : (w : Setting) (before : List WorldEvent) (event : WorldEvent) (step : PoolStep) (s : ℕ) (p q : world.Numbers)
    → IsLegalWorld w (event ∷ before) → pool_of w.maxima s before ≡ Some p
    → pool_of w.maxima s (event ∷ before) ≡ Some q → pool_step s before event ≡ Some step → after (numbers_of p) step ≡ numbers_of q
step_goes w before event step s p q l e h is = subst (λ (o : Option PoolStep). after_step (numbers_of p) o ≡ numbers_of q) is
    (goes_with w before event s p q l e h)

-- an event that is no step of a service's pool leaves its numbers in the world as they were
pub none_stays : (w : Setting) (before : List WorldEvent) (event : WorldEvent) (s : ℕ) (p q : world.Numbers)
    → IsLegalWorld w (event ∷ before) → pool_of w.maxima s before ≡ Some p
    → pool_of w.maxima s (event ∷ before) ≡ Some q → pool_step s before event ≡ None → numbers_of p ≡ numbers_of q
none_stays w before event s p q l e h is = subst (λ (o : Option PoolStep). after_step (numbers_of p) o ≡ numbers_of q) is
    (goes_with w before event s p q l e h)

-- making room in a journal changes no number

-- a full journal that lets its oldest step go has the same numbers
slid_keeps : (j : Journaled) → (slid j).numbers ≡ j.numbers
slid_keeps j = by_case (length j.steps == j.room)
  where
    first : (steps : List PoolStep) → (shortened j steps).numbers ≡ j.numbers
    first [] = refl
    first (s ∷ ss) = refl

    by_case : (b : Bool) → (cond b (shortened j j.steps) j).numbers ≡ j.numbers
    by_case true = first j.steps
    by_case false = refl

-- a full journal that starts empty from its present numbers has the same ones
rebased_keeps : (j : Journaled) → (rebased j).numbers ≡ j.numbers
rebased_keeps j = by_case (length j.steps == j.room)
  where
    by_case : (b : Bool) → (cond b (record j { base = j.numbers; steps = [] }) j).numbers ≡ j.numbers
    by_case true = refl
    by_case false = refl

-- a journal with the world's numbers of a pool still has them after a taken event's step, whichever way it makes room
pub journals_go : (w : Setting) (before : List WorldEvent) (event : WorldEvent) (step : PoolStep) (s : ℕ) (p q : world.Numbers)
    (j : Journaled) → IsLegalWorld w (event ∷ before)
    → pool_of w.maxima s before ≡ Some p → pool_of w.maxima s (event ∷ before) ≡ Some q → pool_step s before event ≡ Some step
    → j.numbers ≡ numbers_of p
    → ((stepped slid j step).numbers ≡ numbers_of q) × ((stepped rebased j step).numbers ≡ numbers_of q)
journals_go w before event step s p q j l e h is k =
    let goes = step_goes w before event step s p q l e h is in
    (ap (λ n. after n step) (slid_keeps j ∙ k) ∙ goes, ap (λ n. after n step) (rebased_keeps j ∙ k) ∙ goes)

-- The pool takes the step.

-- an event is an allowed step of a pool or none, if the step is allowed where the event is of the pool
if_here : (b : Bool) (step : PoolStep) (n : Numbers) → (b ≡ true → IsAllowed n step) → IfSome (cond b (Some step) None) (IsAllowed n)
if_here true step n h = h refl
if_here false step n h = tt

-- a lease that the test finds to be of a service is of that service
of_service : (s : ℕ) (lease : Option ℕ) → is_service s lease ≡ true → lease ≡ Some s
of_service s None h = absurd cc
of_service s (Some u) h = ap (λ (x : ℕ). Some x) (eqb-true u s h)

-- a pool of which a transaction has a lease has one leased at least
one_leased : (w : Setting) (before : List WorldEvent) (t s : ℕ) (p : world.Numbers) → IsLegalWorld w before
    → pool_of w.maxima s before ≡ Some p → is_service s (lease_of t before) ≡ true → 1 ≤ p.leased
one_leased w before t s p l e b =
    subst (λ (o : Option world.Numbers). IsSomeAnd o (λ x. 1 ≤ x.leased)) e
    (pool_leased w t s before l (of_service s (lease_of t before) b))

-- a pool with one leased allows that a connection is put and that it is given up
back_may : (n : Numbers) (kept : Bool) → 1 ≤ n.leased → IsAllowed n (back_step kept)
back_may n true one = one
back_may n false one = one

-- at most the maximum are open where a request begins anew
few_open : (w : Setting) (before : List WorldEvent) (t s : ℕ) (event : Event) (p : world.Numbers) → IsLegalWorld w (Of t event ∷ before)
    → pool_of w.maxima s before ≡ Some p → lease_of t before ≡ Some s
    → is_retry event ≡ true → p.idle + p.leased ≤ p.maximum
few_open w before t s event p l e lease r = by_case (open_at t before) refl
  where
    calm : (b : Bool) → is_retry event ≡ true → (is_retry event && b) ≡ false → b ≡ false
    calm b r f = grind (arith, nat_tests)

    by_case : (o : Option Opened) → open_at t before ≡ o → p.idle + p.leased ≤ p.maximum
    by_case None a = absurd (let none = subst (λ (x : Option Opened). opened_event_fault x (found_at w t before) event ≡ None) a l.0 in cc)
    by_case (Some o) a =
        let none = subst (λ (x : Option Opened). opened_event_fault x (found_at w t before) event ≡ None) a l.0 in
        let quiet = calm (found_at w t before).crowded r (rows_of o (found_at w t before) event none).2 in
        let own = subst (λ (u : Option ℕ). (lease_state u (is_reused w.maxima t before) (λ s. pool_of w.maxima s before)).crowded ≡ false)
        lease quiet in
        ltb-false p.maximum (p.idle + p.leased) (subst (λ (x : Option world.Numbers). is_crowded x ≡ false) e own)

-- the numbers of a service's pool allow the step of a taken event, if any, whose maximum a pool takes
pub may_step : (w : Setting) (before : List WorldEvent) (event : WorldEvent) (s : ℕ) (p : world.Numbers) → IsLegalWorld w (event ∷ before)
    → IsPoolEvent event → pool_of w.maxima s before ≡ Some p
    → IfSome (pool_step s before event) (IsAllowed (numbers_of p))
may_step w before (Lease t u) s p l i e = if_here (u == s) pool.Take (numbers_of p)
    (λ b none. below p.idle p.leased p.maximum none (not_full w before t u s p l e b))
  where
    below : (idle leased most : ℕ) → idle ≡ 0 → ((idle == 0) && nat_le most (idle + leased)) ≡ false → leased < most
    below idle leased most e f = grind (arith, nat_tests)
may_step w before (Of t event) s p l i e =
    if_here (is_retry event && is_service s (lease_of t before)) pool.Replace (numbers_of p)
    (λ b. let here = right (is_retry event) (is_service s (lease_of t before)) b in (
      one_leased w before t s p l.1 e here,
      few_open w before t s event p l e (of_service s (lease_of t before) here)
          (left (is_retry event) (is_service s (lease_of t before)) b),
    ))
  where
    left : (a b : Bool) → (a && b) ≡ true → a ≡ true
    left a b h = grind arith

    right : (a b : Bool) → (a && b) ≡ true → b ≡ true
    right a b h = grind arith
may_step w before (Back t kept) s p l i e =
    if_here (is_service s (lease_of t before)) (back_step kept) (numbers_of p)
    (λ b. back_may (numbers_of p) kept (one_leased w before t s p l.1 e b))
may_step w before (Limit u n) s p l i e = if_here (u == s) (pool.Limit n) (numbers_of p) (λ b. i)
may_step w before (Open t plan claim) s p l i e = tt
may_step w before (Reclaim t claim) s p l i e = tt
may_step w before (Close t) s p l i e = tt
may_step w before (Capacity n) s p l i e = tt

-- a service's pool allows a step that is that of a taken event whose maximum a pool takes
pub step_allowed : (w : Setting) (before : List WorldEvent) (event : WorldEvent) (step : PoolStep) (s : ℕ) (p : world.Numbers)
    → IsLegalWorld w (event ∷ before) → IsPoolEvent event
    → pool_of w.maxima s before ≡ Some p → pool_step s before event ≡ Some step → IsAllowed (numbers_of p) step
step_allowed w before event step s p l i e is = subst (λ (o : Option PoolStep). IfSome o (IsAllowed (numbers_of p))) is
    (may_step w before event s p l i e)

-- The whole history.

-- numbers after steps and one more are those after the steps, and then after that one
replay_push : (n : Numbers) (steps : List PoolStep) (step : PoolStep) → replay n (steps ++ step ∷ []) ≡ after (replay n steps) step
replay_push n [] step = refl
replay_push n (s ∷ steps) step = replay_push (after n s) steps step

-- numbers after steps and one that may be there are those after the steps, and then after that, if any
replay_with : (n : Numbers) (steps : List PoolStep) (o : Option PoolStep) → replay n (with_step steps o) ≡ after_step (replay n steps) o
replay_with n steps None = refl
replay_with n steps (Some step) = replay_push n steps step

-- a service that was there at first is there all along
has_pool : (maxima : List ℕ) (s most : ℕ) (events : List WorldEvent) → slice_get maxima s ≡ Some most
    → (p : world.Numbers) × (pool_of maxima s events ≡ Some p)
has_pool maxima s most [] e = (empty_pool most, ap (option_map empty_pool) e)
has_pool maxima s most (Lease t u ∷ before) e = changed (u == s) taken (pool_of maxima s before) (has_pool maxima s most before e)
  where
    changed : (b : Bool) (f : world.Numbers → world.Numbers) (o : Option world.Numbers) → ((p : world.Numbers) × (o ≡ Some p))
        → (p : world.Numbers) × (cond b (option_map f o) o ≡ Some p)
    changed true f o h = (f h.0, ap (option_map f) h.1)
    changed false f o h = h
has_pool maxima s most (Back t kept ∷ before) e = changed (is_service s (lease_of t before)) (put_back kept) (pool_of maxima s before)
    (has_pool maxima s most before e)
  where
    changed : (b : Bool) (f : world.Numbers → world.Numbers) (o : Option world.Numbers) → ((p : world.Numbers) × (o ≡ Some p))
        → (p : world.Numbers) × (cond b (option_map f o) o ≡ Some p)
    changed true f o h = (f h.0, ap (option_map f) h.1)
    changed false f o h = h
has_pool maxima s most (Limit u n ∷ before) e = changed (u == s) (limited n) (pool_of maxima s before) (has_pool maxima s most before e)
  where
    changed : (b : Bool) (f : world.Numbers → world.Numbers) (o : Option world.Numbers) → ((p : world.Numbers) × (o ≡ Some p))
        → (p : world.Numbers) × (cond b (option_map f o) o ≡ Some p)
    changed true f o h = (f h.0, ap (option_map f) h.1)
    changed false f o h = h
has_pool maxima s most (Open t plan claim ∷ before) e = has_pool maxima s most before e
has_pool maxima s most (Of t event ∷ before) e = has_pool maxima s most before e
has_pool maxima s most (Reclaim t claim ∷ before) e = has_pool maxima s most before e
has_pool maxima s most (Close t ∷ before) e = has_pool maxima s most before e
has_pool maxima s most (Capacity n ∷ before) e = has_pool maxima s most before e

-- a legal history's steps lead a pool with no connection to the numbers that the world has
pub replays : (w : Setting) (events : List WorldEvent) (s most : ℕ) (p : world.Numbers) → IsLegalWorld w events
    → slice_get w.maxima s ≡ Some most → pool_of w.maxima s events ≡ Some p
    → replay (none_open most) (pool_steps s events) ≡ numbers_of p
replays w [] s most p l e h = ap numbers_of (same (empty_pool most) p (sym (ap (option_map empty_pool) e) ∙ h))
  where
    same : (p q : world.Numbers) → Some p ≡ Some q → p ≡ q
    same p q e = cc
replays w (event ∷ before) s most q l e h =
    let old = has_pool w.maxima s most before e in
    replay_with (none_open most) (pool_steps s before) (pool_step s before event)
    ∙ ap (λ (n : Numbers). after_step n (pool_step s before event)) (replays w before s most old.0 l.1 e old.1)
    ∙ goes_with w before event s old.0 q l old.1 h

-- steps that are allowed are so with one more that is allowed after them
allowed_push : (n : Numbers) (steps : List PoolStep) (step : PoolStep) → AreAllowed n steps → IsAllowed (replay n steps) step
    → AreAllowed n (steps ++ step ∷ [])
allowed_push n [] step all m = (m, tt)
allowed_push n (s ∷ steps) step all m = (all.0, allowed_push (after n s) steps step all.1 m)

-- steps that are allowed are so with one that may be there, if it is allowed after them
allowed_with : (n : Numbers) (steps : List PoolStep) (o : Option PoolStep) → AreAllowed n steps → IfSome o (IsAllowed (replay n steps))
    → AreAllowed n (with_step steps o)
allowed_with n steps None all m = all
allowed_with n steps (Some step) all m = allowed_push n steps step all m

-- a pool allows each step of a legal history where it stands, if its maxima are such as a pool takes
pub all_allowed : (w : Setting) (events : List WorldEvent) (s most : ℕ) → IsLegalWorld w events → ArePoolEvents events
    → slice_get w.maxima s ≡ Some most
    → AreAllowed (none_open most) (pool_steps s events)
all_allowed w [] s most l a e = tt
all_allowed w (event ∷ before) s most l a e =
    let old = has_pool w.maxima s most before e in
    allowed_with (none_open most) (pool_steps s before) (pool_step s before event) (all_allowed w before s most l.1 a.1 e)
    (subst (λ (n : Numbers). IfSome (pool_step s before event) (IsAllowed n)) (sym (replays w before s most old.0 l.1 e old.1))
    (may_step w before event s old.0 l a.0 old.1))

-- a journal that has the last of a legal history's steps has the numbers of the world's pool
pub journal_shows : (w : Setting) (events : List WorldEvent) (s most : ℕ) (p : world.Numbers) (j : Journaled) → IsLegalWorld w events
    → slice_get w.maxima s ≡ Some most → pool_of w.maxima s events ≡ Some p
    → HasLast (none_open most) (pool_steps s events) j → j.numbers ≡ numbers_of p
journal_shows w events s most p j l e h last = last.numbers ∙ replays w events s most p l e h

-- Want of connections is one condition.

-- a lease's row is PoolFull just where none is idle and the leased aren't below the maximum
lease_row : (p : world.Numbers) → ((first_of ((is_none (Some p), UnknownService) ∷ (false, HasLease) ∷ (is_full (Some p), PoolFull) ∷ [])
    ≡ Some PoolFull) ↔ ((p.idle ≡ 0) × (p.maximum ≤ p.leased)))
lease_row p = grind (arith, nat_tests)

-- a list of no length is empty
no_length : {C : Type 0} (xs : List C) → length xs ≡ 0 → xs ≡ []
no_length [] e = refl
no_length (x ∷ xs) e = absurd (omega arith)

-- a lease of a transaction that has none is refused with PoolFull exactly where the pool is busy
pub busy_where : {C : Type 0} (w : Setting) (before : List WorldEvent) (t s : ℕ) (p : world.Numbers) (pool : Pooled C)
    → pool_of w.maxima s before ≡ Some p → lease_of t before ≡ None → IsKept pool
    → pool.journal.numbers ≡ numbers_of p → ((world_fault w before (Lease t s) ≡ Some PoolFull) ↔ IsBusy pool)
busy_where w before t s p pool e none k h =
    let row = lease_row p in
    let same : first_of ((is_none (pool_of w.maxima s before), UnknownService) ∷ (is_some (lease_of t before), HasLease) ∷
    (is_full (pool_of w.maxima s before), PoolFull) ∷ [])
    ≡ first_of ((is_none (Some p), UnknownService) ∷ (false, HasLease) ∷ (is_full (Some p), PoolFull) ∷ []) =
    ap (λ (o : Option world.Numbers). first_of ((is_none o, UnknownService) ∷ (is_some (lease_of t before), HasLease) ∷
    (is_full o, PoolFull) ∷ [])) e
    ∙ ap (λ (o : Option ℕ). first_of ((is_none (Some p), UnknownService) ∷ (is_some o, HasLease) ∷ (is_full (Some p), PoolFull) ∷ []))
    none in
    let idle : pool.journal.numbers.idle ≡ p.idle = ap (λ (n : Numbers). n.idle) h in
    let leased : pool.journal.numbers.leased ≡ p.leased = ap (λ (n : Numbers). n.leased) h in
    let most : pool.journal.numbers.maximum ≡ p.maximum = ap (λ (n : Numbers). n.maximum) h in
    let counted = k.idle in (
      λ f. let full = row.0 (sym same ∙ f) in let zero_idle = full.0 in let over = full.1 in
          (no_length pool.idle (omega arith), omega arith),
      λ b. let empty : length pool.idle ≡ 0 = ap length b.0 in let over = b.1 in same ∙ row.1 (omega arith, omega arith),
    )

-- the row of an allowed retry of a reused lease is PoolFull just where more are open than the maximum
retry_row : (x : Seen) (claim : ℕ) (p : world.Numbers) → first_fault x Retry ≡ None
    → ((event_fault x claim (lease_state (Some 0) true (λ s. Some p)) Retry ≡ Some PoolFull) ↔ (p.maximum < p.idle + p.leased))
retry_row x claim p f = rows (first_fault x Retry) (needs_lease x Retry) (nat_lt claim (held_places (seen_after x Retry))) f
  where
    rows : (first : Option StepFault) (needs over : Bool) → first ≡ None
        → ((step_first first (first_of ((needs && false, NoLease) ∷ (false, NotReused) ∷ (nat_lt p.maximum (p.idle + p.leased), PoolFull) ∷
        (over, OverClaim) ∷ [])) ≡ Some PoolFull) ↔ (p.maximum < p.idle + p.leased))
    rows None true true e = grind (arith, nat_tests)
    rows None true false e = grind (arith, nat_tests)
    rows None false true e = grind (arith, nat_tests)
    rows None false false e = grind (arith, nat_tests)
    rows (Some fault) needs over e = absurd cc

-- an allowed retry of a reused lease is refused with PoolFull exactly where its pool has too many open
pub over_where : (w : Setting) (before : List WorldEvent) (t s : ℕ) (o : Opened) (p : world.Numbers) → open_at t before ≡ Some o
    → first_fault (shown o) Retry ≡ None → lease_of t before ≡ Some s
    → is_reused w.maxima t before ≡ true → pool_of w.maxima s before ≡ Some p
    → ((world_fault w before (Of t Retry) ≡ Some PoolFull) ↔ ((numbers_of p).maximum < open_count (numbers_of p)))
over_where w before t s o p a f lease reused e =
    let row = retry_row (shown o) o.claim p f in
    let crowded : (found_at w t before).crowded ≡ is_crowded (Some p) =
    ap (λ (u : Option ℕ). (lease_state u (is_reused w.maxima t before) (λ s. pool_of w.maxima s before)).crowded) lease
    ∙ ap is_crowded e in
    let leased : (found_at w t before).leased ≡ true = ap (λ (u : Option ℕ). is_some u) lease in
    let found : found_at w t before ≡ lease_state (Some 0) true (λ s. Some p) =
    ap (λ (b : Bool). record { leased = b; reused = is_reused w.maxima t before; crowded = (found_at w t before).crowded }) leased
    ∙ ap (λ (b : Bool). record { leased = true; reused = b; crowded = (found_at w t before).crowded }) reused
    ∙ ap (λ (b : Bool). record { leased = true; reused = true; crowded = b }) crowded in
    let same = ap (λ (x : Option Opened). opened_event_fault x (found_at w t before) Retry) a
    ∙ ap (λ (found : LeaseState). event_fault (shown o) o.claim found Retry) found in
    (λ h. row.0 (sym same ∙ h), λ h. same ∙ row.1 h)
