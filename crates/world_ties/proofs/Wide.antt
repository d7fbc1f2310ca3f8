-- A preview that isn't full has its room from the beginning on.
use Rattle.std.proofs.Common.{◌≡◌, ℕ, ◌≤◌, inl, inr, List, [], ◌∷◌, None, arith, refl, sym, subst, ap}
use Rattle.std.proofs.lemmas.Bool.Decides.{nat_tests}
use Rattle.trace_core.specs.declared.history.Plan.{Plan}
use Rattle.trace_core.specs.declared.history.Event.{Event}
use Rattle.trace_core.specs.declared.history.Event.TheVariants.{In, Ad, Continue, NoMod, Mod}
use Rattle.trace_core.specs.declared.history.Payload.{Payload}
use Rattle.trace_core.specs.declared.history.Seen.{Seen}
use Rattle.trace_core.specs.History.{seen}
use Rattle.trace_core.specs.Held.{original_from, adapted_from}
use Rattle.trace_core.specs.Legal.{Allows, MayFollow, open_preview}
use Rattle.trace_core.specs.View.{after}
use Rattle.trace_core.proofs.Sound.{Sound, sound}
use Rattle.trace_core.proofs.Filled.{filled}
use Rattle.plan_rules.specs.Claims.{least_claim, claim_of}
use Rattle.plan_rules.specs.Room.{claim_then}
use Rattle.adapt_hold.specs.Holding.{Holding, IsTied, Took, shows, history_then, moved}
use Rattle.adapt_hold.proofs.Closes.{then_shows}
use Rattle.adapt_hold.proofs.Tied.{brings, brings_none, moved-tied, still_fits}
use Rattle.world_core.proofs.Standing.{HasRoom, room-after}
use Rattle.plan_rules.specs.declared.limits.Limits.{Limits}
use Rattle.world_ties.specs.Alone.{IsWide, IsReached, IsTaken, MayPutIn, MayMoveOn, new_holding}

-- what a plan reserves is at least its least claim
preview_fits : (plan : Plan) (window : ℕ) → least_claim plan ≤ claim_of plan window
preview_fits plan window = grind (arith, nat_tests)

-- a new holding has room for its preview
pub wide_first : (plan : Plan) (limits : Limits) → IsWide (new_holding plan limits)
wide_first plan limits size o d r = preview_fits plan limits.window

-- a reply comes after the last chunk of a preview

-- after a 100 no preview is open
no_preview_continue : (x : Seen) → Sound x → Allows x Continue → open_preview (after x Continue) ≡ None
no_preview_continue x s a = grind (arith, nat_tests)

-- after a 204 no preview is open
no_preview_no_mod : (x : Seen) → Sound x → Allows x NoMod → open_preview (after x NoMod) ≡ None
no_preview_no_mod x s a = grind (arith, nat_tests)

-- after a 200 no preview is open
no_preview_mod : (x : Seen) (payload : Payload) → Sound x → Allows x (Mod payload) → open_preview (after x (Mod payload)) ≡ None
no_preview_mod x payload s a = grind (arith, nat_tests)

-- any claim has room for a preview where none is open
none_open : (x : Seen) (claim : ℕ) → open_preview x ≡ None → HasRoom x claim
none_open x claim n size o d r = absurd cc

-- so where the reservation falls there is no preview to fill
wide_then : (x : Seen) (event : Event) (claim window : ℕ) → Sound x → Allows x event → HasRoom (after x event) claim
    → HasRoom (after x event) (claim_then (after x event) event claim window)
wide_then x Continue claim window s a r = none_open (after x Continue) _ (no_preview_continue x s a)
wide_then x NoMod claim window s a r = none_open (after x NoMod) _ (no_preview_no_mod x s a)
wide_then x (Mod payload) claim window s a r = none_open (after x (Mod payload)) _ (no_preview_mod x payload s a)
wide_then x _ claim window s a r = r

-- one step of a tied holding with room for its preview leaves it room
wide_moved : (h : Holding) (event : Event) (bytes : List ℕ) → IsTied h → IsWide h → Took h event bytes (moved h event bytes)
    → IsWide (moved h event bytes)
wide_moved h event bytes t w k =
    subst (λ (x : Seen). HasRoom x (moved h event bytes).claim)
    (sym (then_shows h event (history_then h.history event) t k.0 refl))
    (wide_then (shows h.history) event h.claim h.limits.window (sound h.history.plan h.history.events t.legal) k.0.1
    (room-after (shows h.history) event h.claim (filled h.history.plan h.history.events t.legal) w))

-- what an event makes of a tied holding with room for its preview has that room too
pub wide_stays : (old new : Holding) (event : Event) (bytes : List ℕ) → IsTied old → IsWide old → Took old event bytes new → IsWide new
wide_stays old new event bytes t w k = subst IsWide (sym k.1) (wide_moved old event bytes t w (k.0, refl))

-- Every holding that the calls make of a new one.

-- of a history of no event the original places are held from 0 on
none_held : (plan : Plan) → original_from (seen plan []) ≡ 0
none_held plan = grind (arith, nat_tests)

-- of a history of no event the adapted places are held from 0 on
none_adapted : (plan : Plan) → adapted_from (seen plan []) ≡ 0
none_adapted plan = grind (arith, nat_tests)

-- a new holding, which holds nothing, is tied
tied_first : (plan : Plan) (limits : Limits) → IsTied (new_holding plan limits)
tied_first plan limits = record {
  legal = tt;
  original = ap (λ (from : ℕ). (from, 0)) (sym (none_held plan));
  adapted = ap (λ (from : ℕ). (from, 0)) (sym (none_adapted plan));
  held = refl;
  within = omega arith;
}

-- a tied holding stays tied after an event with its bytes that may follow and has room
tied_put : (h : Holding) (event : Event) (bytes : List ℕ) → IsTied h → MayFollow h.history.plan h.history.events event
    → MayPutIn h event bytes → IsTied (moved h event bytes)
tied_put h (In n) bytes t m p = moved-tied h (In n) bytes t (brings h (In n) bytes m p.0) (p.1 m)
tied_put h (Ad n) bytes t m p = moved-tied h (Ad n) bytes t (brings h (Ad n) bytes m p.0) (p.1 m)
tied_put h _ bytes t m p = absurd p.0

-- a tied holding stays tied after an event without bytes that may follow
tied_moved_on : (h : Holding) (event : Event) (bytes : List ℕ) → IsTied h → MayFollow h.history.plan h.history.events event
    → MayMoveOn event bytes → IsTied (moved h event bytes)
tied_moved_on h event bytes t m q =
    let s = brings_none h event m q.0 in
    subst (λ (bs : List ℕ). IsTied (moved h event bs)) (sym q.1) (moved-tied h event [] t s (still_fits h event t s q.0))

-- a tied holding stays tied after an event that one of the two calls takes
tied_taken : (h : Holding) (event : Event) (bytes : List ℕ) → IsTied h → IsTaken h event bytes → IsTied (moved h event bytes)
tied_taken h event bytes t k = elim k.1 [
  | inl p ↦ tied_put h event bytes t k.0 p
  | inr q ↦ tied_moved_on h event bytes t k.0 q
]

-- each holding that the calls make of a new one is tied, with room for its preview
pub reached : (plan : Plan) (limits : Limits) (taken : List (Event × List ℕ)) (h : Holding) → IsReached plan limits taken h
    → IsTied h × IsWide h
reached plan limits [] h r =
    subst (λ (x : Holding). IsTied x × IsWide x) (sym r) (tied_first plan limits, wide_first plan limits)
reached plan limits (last ∷ before) h r =
    let old : Holding = r.0 in
    let stood = reached plan limits before old r.1 in
    subst (λ (x : Holding). IsTied x × IsWide x) (sym r.3)
    (tied_taken old last.0 last.1 stood.0 r.2, wide_stays old (moved old last.0 last.1) last.0 last.1 stood.0 stood.1 (r.2.0, refl))
