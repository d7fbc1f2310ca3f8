-- What the laws on bodies and on room stand on.
use Rattle.std.proofs.Common.{◌≡◌, ℕ, ◌+◌, ◌-◌, ◌≤◌, true, false, List, [], ◌++◌, length, drop, arith, refl, sym, ◌∙◌, ap, subst}
use Rattle.std.proofs.lemmas.List.{length-append, drop-drop, drop-append-le}
use Rattle.std.proofs.lemmas.Bool.Decides.{nat_tests}
use Rattle.trace_core.specs.declared.history.Seen.{Seen}
use Rattle.trace_core.specs.declared.history.Event.{Event}
use Rattle.trace_core.specs.declared.history.Event.TheVariants.{In, End, Svc, Stop, Heard, Continue, NoMod, Mod, Ad, AdEnd, Usr, Done, Fail}
use Rattle.trace_core.specs.declared.history.Event.TheVariants.{Retry}
use Rattle.trace_core.specs.Legal.{MayFollow, Allows}
use Rattle.trace_core.specs.Faults.{chooses_original}
use Rattle.trace_core.specs.Held.{original_from, adapted_from, held_places}
use Rattle.trace_core.proofs.Sound.{Sound, sound}
use Rattle.adapt_hold.specs.Spans.{Span, span_end, EndsBody}
use Rattle.adapt_hold.specs.Holding.{Holding, IsTied, IsRoomy, Carries, BringsNone, shows, shows_then, history_then, then_from, moved}
use Rattle.adapt_hold.specs.Holding.{original_in, adapted_in}
use Rattle.plan_rules.specs.Room.{claim_then, original_room, adapted_room}
use Rattle.adapt_hold.proofs.Tied.{Steps, numbers, then_from-end, held_before}
use Rattle.adapt_hold.proofs.Closes.{then_shows}
use Rattle.plan_rules.specs.Room.{IsWithinRoom}
use Rattle.plan_rules.proofs.Paced.{Roomy, Paces, paces-step}

-- what goes to the service next isn't before the first original place that is held
svc_on_tape : (x : Seen) (n : ℕ) → Sound x → x.closed ≡ false → Allows x (Svc n) → original_from x ≤ x.sent
svc_on_tape x n s c a = grind (arith, nat_tests)

-- of a chosen original what goes out next is the first place that is held, and lies within what came
usr_original : (x : Seen) (n : ℕ) → Sound x → x.closed ≡ false → Allows x (Usr n) → chooses_original x ≡ true
    → (original_from x ≡ x.original_delivered) × (x.original_delivered + n ≤ x.received)
usr_original x n s c a o = grind (arith, nat_tests)

-- of an adapted message what goes out next is the first place that is held, and lies within what came
usr_adapted : (x : Seen) (n : ℕ) → Sound x → x.closed ≡ false → Allows x (Usr n) → x.modified ≡ true
    → (adapted_from x ≡ x.adapted_delivered) × (x.adapted_delivered + n ≤ x.adapted_received)
usr_adapted x n s c a o = grind (arith, nat_tests)

-- Tapes and bodies.

-- a body from its tape's base with more bytes after it, cut at a later place, is the whole of both cut there
rest_of : (base place : ℕ) (body b : List ℕ) → base ≤ place → base ≤ length body
    → drop (place - base) (drop base body ++ b) ≡ drop place (body ++ b)
rest_of base place body b low within =
    let to : base + (place - base) ≡ place = omega arith in
    ap (λ (l : List ℕ). drop (place - base) l) (sym (drop-append-le base body b within))
    ∙ drop-drop (place - base) base (body ++ b)
    ∙ ap (λ (k : ℕ). drop k (body ++ b)) to

-- a body's tape that takes bytes and whose base moves on, at most to its end, has those of the body with these after it
pub follows : (t : Span) (b body : List ℕ) (place : ℕ) → t.base ≤ place → place ≤ span_end t + length b → EndsBody t body
    → EndsBody (then_from t b place) (body ++ b)
follows t b body place low high f =
    let to = f.end in
    record {
      end = then_from-end t b place low high ∙ ap (λ (k : ℕ). k + length b) f.end ∙ sym (length-append body b);
      bytes = ap (λ (l : List ℕ). drop (place - t.base) (l ++ b)) f.bytes ∙ rest_of t.base place body b low (omega arith);
    }

-- an event that may follow and has just the bytes that it counts is a step
pub steps : (h : Holding) (event : Event) (bytes : List ℕ) → MayFollow h.history.plan h.history.events event → Carries event bytes
    → Steps h event bytes
steps h event bytes m c = record { may = m; original = c.0; adapted = c.1 }

-- the original's tape has the bytes of the body with those that a step brings
pub original_follows : (h : Holding) (event : Event) (bytes body : List ℕ) → IsTied h → Steps h event bytes → EndsBody h.original body
    → EndsBody (moved h event bytes).original (body ++ original_in event bytes)
original_follows h event bytes body t s f =
    let n = numbers h event bytes t s in
    let high = n.original_high in let all = n.received in
    follows h.original (original_in event bytes) body (original_from (shows_then h.history event)) n.original_low (omega arith) f

-- the adapted tape has the bytes of the body with those that a step brings
pub adapted_follows : (h : Holding) (event : Event) (bytes body : List ℕ) → IsTied h → Steps h event bytes → EndsBody h.adapted body
    → EndsBody (moved h event bytes).adapted (body ++ adapted_in event bytes)
adapted_follows h event bytes body t s f =
    let n = numbers h event bytes t s in
    let high = n.adapted_high in let all = n.came in
    follows h.adapted (adapted_in event bytes) body (adapted_from (shows_then h.history event)) n.adapted_low (omega arith) f

-- What may be sent.

pub record Ends (h : Holding) : Type 0 where
  pub sound : Sound (shows h.history)
  pub original_base : h.original.base ≡ original_from (shows h.history)
  pub original_end : span_end h.original ≡ (shows h.history).received
  pub adapted_base : h.adapted.base ≡ adapted_from (shows h.history)
  pub adapted_end : span_end h.adapted ≡ (shows h.history).adapted_received

-- the tapes of a tied holding begin where their bytes are held from, and end with what came
pub ends : (h : Holding) → IsTied h → Ends h
ends h t = record {
  sound = sound h.history.plan h.history.events t.legal;
  original_base = ap (λ (p : ℕ × ℕ). p.0) t.original;
  original_end = ap (λ (p : ℕ × ℕ). p.1) t.original;
  adapted_base = ap (λ (p : ℕ × ℕ). p.0) t.adapted;
  adapted_end = ap (λ (p : ℕ × ℕ). p.1) t.adapted;
}

-- what may go to the service lies on the original's tape of a tied holding
pub to_service : (h : Holding) (n : ℕ) → IsTied h → MayFollow h.history.plan h.history.events (Svc n)
    → (h.original.base ≤ (shows h.history).sent) × ((shows h.history).sent + n ≤ span_end h.original)
to_service h n t m =
    let e = ends h t in
    let low = svc_on_tape (shows h.history) n e.sound m.0 m.1 in
    let base = e.original_base in let end = e.original_end in
    let came : (shows h.history).sent + n ≤ (shows h.history).received = m.1.2 in
    (omega arith, omega arith)

-- what may go out of a chosen original lies on its tape of a tied holding, from its base
pub original_to_next : (h : Holding) (n : ℕ) → IsTied h → MayFollow h.history.plan h.history.events (Usr n)
    → chooses_original (shows h.history) ≡ true
    → (h.original.base ≡ (shows h.history).original_delivered) × ((shows h.history).original_delivered + n ≤ span_end h.original)
original_to_next h n t m o =
    let e = ends h t in
    let u = usr_original (shows h.history) n e.sound m.0 m.1 o in
    let base = e.original_base in let end = e.original_end in let a = u.0 in let b = u.1 in
    (omega arith, omega arith)

-- what may go out of an adapted message lies on its tape of a tied holding, from its base
pub adapted_to_next : (h : Holding) (n : ℕ) → IsTied h → MayFollow h.history.plan h.history.events (Usr n)
    → (shows h.history).modified ≡ true
    → (h.adapted.base ≡ (shows h.history).adapted_delivered) × ((shows h.history).adapted_delivered + n ≤ span_end h.adapted)
adapted_to_next h n t m o =
    let e = ends h t in
    let u = usr_adapted (shows h.history) n e.sound m.0 m.1 o in
    let base = e.adapted_base in let end = e.adapted_end in let a = u.0 in let b = u.1 in
    (omega arith, omega arith)

-- Room.

-- a holding after an event has a window left where what is seen then has
pub roomy_then : (h : Holding) (event : Event) (bytes : List ℕ) → IsTied h → MayFollow h.history.plan h.history.events event
    → Roomy (shows_then h.history event) (moved h event bytes).claim h.limits.window → IsRoomy (moved h event bytes)
roomy_then h event bytes t m r =
    subst (λ (x : Seen). Roomy x (moved h event bytes).claim h.limits.window)
    (sym (then_shows h event (history_then h.history event) t m refl)) r

-- a holding that holds nothing, of a claim of at least a window, has a window left
pub room_begins : (h : Holding) → IsTied h → h.held ≡ 0 → h.limits.window ≤ h.claim → IsRoomy h
room_begins h t none w = λ still other.
    let e = held_before h t in
    (omega arith, omega arith)

-- a step within its room keeps the bytes within the claim, and the window
pub record Fits (h : Holding) (event : Event) (bytes : List ℕ) : Type 0 where
  pub held : held_places (shows_then h.history event) ≤ claim_then (shows_then h.history event) event h.claim h.limits.window
  pub roomy : IsRoomy (moved h event bytes)

-- a step within its room of a holding with a window left fits the claim, and leaves a window
pub fits : (h : Holding) (event : Event) (bytes : List ℕ) → IsTied h → IsRoomy h → MayFollow h.history.plan h.history.events event
    → IsWithinRoom (shows h.history) h.claim h.limits.window h.limits.turn event → Fits h event bytes
fits h event bytes t r m w =
    let x : Seen = shows h.history in
    let held : held_places x ≤ h.claim = let q = held_before h t in let v = t.within in omega arith in
    let paced : Paces x h.claim h.limits.window = record { held = held; roomy = r } in
    let next = paces-step x event h.claim h.limits.window h.limits.turn (ends h t).sound m.0 m.1 w paced in
    record { held = next.held; roomy = roomy_then h event bytes t m next.roomy }

-- an event that brings no bytes needs no room
pub none_needs_room : (x : Seen) (claim window turn : ℕ) (event : Event) → BringsNone event → IsWithinRoom x claim window turn event
none_needs_room x claim window turn (In n) b = elim b [ ]
none_needs_room x claim window turn (Ad n) b = elim b [ ]
none_needs_room x claim window turn End b = tt
none_needs_room x claim window turn (Svc n) b = tt
none_needs_room x claim window turn Stop b = tt
none_needs_room x claim window turn Heard b = tt
none_needs_room x claim window turn Continue b = tt
none_needs_room x claim window turn NoMod b = tt
none_needs_room x claim window turn (Mod payload) b = tt
none_needs_room x claim window turn AdEnd b = tt
none_needs_room x claim window turn (Usr n) b = tt
none_needs_room x claim window turn Done b = tt
none_needs_room x claim window turn (Fail cause) b = tt
none_needs_room x claim window turn Retry b = tt

-- bytes of the source within the room for the original fit the claim, and leave a window
pub room_in : (h : Holding) (n : ℕ) (bytes : List ℕ) → IsTied h → IsRoomy h → MayFollow h.history.plan h.history.events (In n)
    → n ≤ original_room (shows h.history) h.claim h.limits.window h.limits.turn
    → (held_places (shows_then h.history (In n)) ≤ h.claim) × IsRoomy (moved h (In n) bytes)
room_in h n bytes t r m w = let f = fits h (In n) bytes t r m w in (f.held, f.roomy)

-- adapted bytes within their room fit the claim, and leave a window
pub room_ad : (h : Holding) (n : ℕ) (bytes : List ℕ) → IsTied h → IsRoomy h → MayFollow h.history.plan h.history.events (Ad n)
    → n ≤ adapted_room (shows h.history) h.limits.window h.limits.turn
    → (held_places (shows_then h.history (Ad n)) ≤ h.claim) × IsRoomy (moved h (Ad n) bytes)
room_ad h n bytes t r m w = let f = fits h (Ad n) bytes t r m w in (f.held, f.roomy)

-- an event that brings no bytes leaves a window where one was left
pub room_others : (h : Holding) (event : Event) → IsTied h → IsRoomy h → MayFollow h.history.plan h.history.events event → BringsNone event
    → IsRoomy (moved h event [])
room_others h event t r m b = (fits h event [] t r m (none_needs_room (shows h.history) h.claim h.limits.window h.limits.turn event
    b)).roomy
