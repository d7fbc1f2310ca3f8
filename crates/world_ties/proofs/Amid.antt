-- What others do leaves a transaction open as it was, with its connection.
use Rattle.std.proofs.Common.{◌≡◌, ℕ, Bool, true, false, not, ◌&&◌, List, [], ◌∷◌, ◌++◌, Option, Some, None, refl, sym, subst, ap, ◌∙◌}
use Rattle.std.specs.Prelude.{◌==◌, is_none, is_some, cond, nat_lt}
use Rattle.std.proofs.lemmas.Bool.{cond_both, eq-eqb}
use Rattle.trace_core.specs.declared.history.Event.{Event}
use Rattle.trace_core.specs.declared.tape.Tape.{Tape}
use Rattle.trace_core.specs.History.{is_retry}
use Rattle.trace_core.specs.Held.{IsIn, held_on, held_places}
use Rattle.trace_core.specs.Faults.{first_fault}
use Rattle.trace_core.specs.View.{after}
use Rattle.need_witness.specs.Table.{script_of}
use Rattle.world_core.specs.declared.event.WorldEvent.{WorldEvent}
use Rattle.world_core.specs.declared.event.WorldEvent.TheVariants.{Lease, Open, Of, Back, Reclaim, Close, Limit, Capacity}
use Rattle.world_core.specs.declared.event.WorldFault.{WorldFault}
use Rattle.world_core.specs.declared.event.WorldFault.TheVariants.{NoLease, LeaseInUse, NotReused, PoolFull, OverClaim}
use Rattle.world_core.specs.declared.leases.LeaseState.{LeaseState}
use Rattle.world_core.specs.WorldHistory.{Setting, Opened, open_at, lease_of, is_service, with_event}
use Rattle.world_core.specs.WorldFaults.{IsLegalWorld, world_fault, first_of, opened_event_fault, opened_uses_lease, opened_claim_fault}
use Rattle.world_core.specs.WorldFaults.{opened_close_fault, found_at, shown, needs_lease, step_first}
use Rattle.world_core.proofs.Standing.{sane_at}
use Rattle.world_core.proofs.Following.{Follows, sane-follows}
use Rattle.world_core.proofs.Continuing.{script_follows}
use Rattle.service_pool.specs.declared.step.PoolStep.TheVariants.{Replace}
use Rattle.world_ties.specs.PoolTie.{pool_step}
use Rattle.world_ties.specs.Amid.{AreOfOthers, IsOfItself, GoesOnAmid}

-- the other arm of a test that fails
passed_by : {X : Type 0} (test : Bool) (first second : X) → test ≡ false → cond test first second ≡ second
passed_by true first second e = absurd cc
passed_by false first second e = refl

-- what others do leaves a transaction open as it was
pub open_amid : (t : ℕ) (others before : List WorldEvent) → AreOfOthers t others → open_at t (others ++ before) ≡ open_at t before
open_amid t [] before a = refl
open_amid t (Lease u s ∷ others) before a = open_amid t others before a.1
open_amid t (Open u plan claim ∷ others) before a = passed_by (u == t) _ _ a.0 ∙ open_amid t others before a.1
open_amid t (Of u event ∷ others) before a = passed_by (u == t) _ _ a.0 ∙ open_amid t others before a.1
open_amid t (Back u kept ∷ others) before a = open_amid t others before a.1
open_amid t (Reclaim u claim ∷ others) before a = passed_by (u == t) _ _ a.0 ∙ open_amid t others before a.1
open_amid t (Close u ∷ others) before a = passed_by (u == t) _ _ a.0 ∙ open_amid t others before a.1
open_amid t (Limit s n ∷ others) before a = open_amid t others before a.1
open_amid t (Capacity n ∷ others) before a = open_amid t others before a.1

-- what others do leaves a transaction its lease, or none, as before
pub lease_amid : (t : ℕ) (others before : List WorldEvent) → AreOfOthers t others → lease_of t (others ++ before) ≡ lease_of t before
lease_amid t [] before a = refl
lease_amid t (Lease u s ∷ others) before a = passed_by (u == t) _ _ a.0 ∙ lease_amid t others before a.1
lease_amid t (Back u kept ∷ others) before a = passed_by (u == t) _ _ a.0 ∙ lease_amid t others before a.1
lease_amid t (Open u plan claim ∷ others) before a = lease_amid t others before a.1
lease_amid t (Of u event ∷ others) before a = lease_amid t others before a.1
lease_amid t (Reclaim u claim ∷ others) before a = lease_amid t others before a.1
lease_amid t (Close u ∷ others) before a = lease_amid t others before a.1
lease_amid t (Limit s n ∷ others) before a = lease_amid t others before a.1
lease_amid t (Capacity n ∷ others) before a = lease_amid t others before a.1

-- but for a retry, an event asks of its connection only whether there is one
rows_same : (needs leased retry reused reused' crowded crowded' over : Bool) → retry ≡ false
    → first_of ((needs && not leased, NoLease) ∷ (retry && not reused, NotReused) ∷ (retry && crowded, PoolFull) ∷ (over, OverClaim) ∷ [])
    ≡ first_of ((needs && not leased, NoLease) ∷ (retry && not reused', NotReused) ∷ (retry && crowded', PoolFull) ∷ (over, OverClaim) ∷ [])
rows_same needs leased true reused reused' crowded crowded' over e = absurd cc
rows_same needs leased false reused reused' crowded crowded' over e = refl

-- but for a retry, an event has the same fault by two findings of its connection that both have a lease or both have none
fault_by_lease : (o : Option Opened) (found other : LeaseState) (event : Event) → is_retry event ≡ false → found.leased ≡ other.leased
    → opened_event_fault o found event ≡ opened_event_fault o other event
fault_by_lease None found other event r l = refl
fault_by_lease (Some o) found other event r l =
    let needs : Bool = needs_lease (shown o) event in
    let over : Bool = nat_lt o.claim (held_places (after (shown o) event)) in
    let rows : Bool → Option WorldFault = λ leased. first_of (
    (needs && not leased, NoLease) ∷ (is_retry event && not other.reused, NotReused)
    ∷ (is_retry event && other.crowded, PoolFull) ∷ (over, OverClaim) ∷ []) in
    ap (step_first (first_fault (shown o) event))
    (rows_same needs found.leased (is_retry event) found.reused other.reused found.crowded other.crowded over r ∙ ap rows l)

-- what others do changes no answer
of_amid : (w : Setting) (before others : List WorldEvent) (t : ℕ) (event : Event) → AreOfOthers t others → is_retry event ≡ false
    → world_fault w (others ++ before) (Of t event) ≡ world_fault w before (Of t event)
of_amid w before others t event a r =
    ap (λ (o : Option Opened). opened_event_fault o (found_at w t (others ++ before)) event) (open_amid t others before a)
    ∙ fault_by_lease (open_at t before) (found_at w t (others ++ before)) (found_at w t before) event r
    (ap (λ (lease : Option ℕ). is_some lease) (lease_amid t others before a))

-- what others do changes no answer to the return of a transaction's connection
back_amid : (w : Setting) (before others : List WorldEvent) (t : ℕ) (kept : Bool) → AreOfOthers t others
    → world_fault w (others ++ before) (Back t kept) ≡ world_fault w before (Back t kept)
back_amid w before others t kept a =
    let row : Option ℕ → Option Opened → Option WorldFault =
    λ lease o. first_of ((is_none lease, NoLease) ∷ (opened_uses_lease o, LeaseInUse) ∷ []) in
    ap (λ (lease : Option ℕ). row lease (open_at t (others ++ before))) (lease_amid t others before a)
    ∙ ap (row (lease_of t before)) (open_amid t others before a)

-- what others do changes no answer to a transaction's own event, other than a lease, its opening or a retry
pub fault_amid : (w : Setting) (before others : List WorldEvent) (t : ℕ) (event : WorldEvent) → AreOfOthers t others
    → IsOfItself t event → world_fault w (others ++ before) event ≡ world_fault w before event
fault_amid w before others t (Of u event) a i =
    subst (λ (v : ℕ). world_fault w (others ++ before) (Of v event) ≡ world_fault w before (Of v event)) (sym i.0)
    (of_amid w before others t event a i.1)
fault_amid w before others t (Back u kept) a i =
    subst (λ (v : ℕ). world_fault w (others ++ before) (Back v kept) ≡ world_fault w before (Back v kept)) (sym i)
    (back_amid w before others t kept a)
fault_amid w before others t (Reclaim u claim) a i =
    subst (λ (v : ℕ). world_fault w (others ++ before) (Reclaim v claim) ≡ world_fault w before (Reclaim v claim)) (sym i)
    (ap (λ (o : Option Opened). opened_claim_fault o claim) (open_amid t others before a))
fault_amid w before others t (Close u) a i =
    subst (λ (v : ℕ). world_fault w (others ++ before) (Close v) ≡ world_fault w before (Close v)) (sym i)
    (ap opened_close_fault (open_amid t others before a))
fault_amid w before others t (Lease u s) a i = absurd i
fault_amid w before others t (Open u plan claim) a i = absurd i
fault_amid w before others t (Limit s n) a i = absurd i
fault_amid w before others t (Capacity n) a i = absurd i

-- a script, event by event

-- an open transaction is open after an event of its own, which is the newest of its part
open_more : (t : ℕ) (event : Event) (before : List WorldEvent) (o : Opened) → open_at t before ≡ Some o
    → open_at t (Of t event ∷ before) ≡ Some (record { plan = o.plan; part = event ∷ o.part; claim = o.claim })
open_more t event before o e =
    cond_both (t == t) _ _ (λ (x : Option Opened). x ≡ Some (record { plan = o.plan; part = event ∷ o.part; claim = o.claim }))
    (λ yes. ap (λ (x : Option Opened). with_event event x) e) (λ no. let yes = eq-eqb t t refl in absurd cc)

-- a script that may follow an open transaction goes on amid whatever others do
goes_on : (w : Setting) (t : ℕ) (before : List WorldEvent) (o : Opened) (script : List Event) → open_at t before ≡ Some o
    → Follows (lease_of t before) o.claim (shown o) script → GoesOnAmid w t before script
goes_on w t before o [] e f = tt
goes_on w t before o (event ∷ script) e f = λ others a l.
    let own : open_at t (others ++ before) ≡ Some o = open_amid t others before a ∙ e in
    let follows : Follows (lease_of t (others ++ before)) o.claim (shown o) (event ∷ script) =
    subst (λ (lease : Option ℕ). Follows lease o.claim (shown o) (event ∷ script)) (sym (lease_amid t others before a)) f in (
      script_follows w t (others ++ before) o (event ∷ []) l own (follows.0, follows.1, follows.2, tt),
      goes_on w t (Of t event ∷ others ++ before) (record { plan = o.plan; part = event ∷ o.part; claim = o.claim }) script
          (open_more t event (others ++ before) o own) follows.3,
    )

-- the script of a place that an open transaction holds goes on amid whatever others do
pub script_amid : (w : Setting) (before : List WorldEvent) (tape : Tape) (t place : ℕ) (o : Opened) → IsLegalWorld w before
    → open_at t before ≡ Some o → IsIn (held_on tape (shown o)) place → GoesOnAmid w t before (script_of tape (shown o) place)
script_amid w before tape t place o l e i =
    goes_on w t before o (script_of tape (shown o) place) e
    (sane-follows tape place (lease_of t before) o (sane_at w t before o l e) i)

-- no event of a message but a retry is a step of a pool
pub no_pool_step : (before : List WorldEvent) (s t : ℕ) (event : Event) → is_retry event ≡ false → pool_step s before (Of t event) ≡ None
no_pool_step before s t event r = no_step (is_retry event) (is_service s (lease_of t before)) r
  where
    no_step : (retry here : Bool) → retry ≡ false → cond (retry && here) (Some Replace) None ≡ None
    no_step true here e = absurd cc
    no_step false here e = refl
