-- One step of a holding keeps the tapes tied to the held intervals, and the reservation to the tapes.
use Rattle.std.proofs.Common.{◌≡◌, ℕ, ◌+◌, ◌-◌, ◌<◌, ◌≤◌, true, List, [], ◌∷◌, ◌++◌, length, get_or, drop, arith, refl, sym, ◌∙◌, ap}
use Rattle.std.proofs.lemmas.List.{length-drop, length-append, append-nil, drop_all, get_or-drop, get_or_append_left}
use Rattle.trace_core.specs.declared.history.Seen.{Seen}
use Rattle.trace_core.specs.declared.history.Event.{Event}
use Rattle.trace_core.specs.declared.history.Event.TheVariants.{In, End, Svc, Stop, Heard, Continue, NoMod, Mod, Ad, AdEnd, Usr, Done, Fail}
use Rattle.trace_core.specs.declared.history.Event.TheVariants.{Retry}
use Rattle.trace_core.specs.History.{in_bytes, ad_bytes}
use Rattle.trace_core.specs.Legal.{IsLegal, MayFollow}
use Rattle.trace_core.specs.Held.{original_from, adapted_from, held_original, held_adapted, held_places}
use Rattle.trace_core.specs.View.{after}
use Rattle.trace_core.specs.Norm.{norm}
use Rattle.trace_core.proofs.Sound.{Sound, sound, sound-after}
use Rattle.trace_core.proofs.Short.{norm-shows}
use Rattle.trace_core.proofs.Kept.{original_within, adapted_within}
use Rattle.trace_core.proofs.Suffices.{original_grows, adapted_grows}
use Rattle.adapt_hold.specs.Spans.{Span, span_end, span_from}
use Rattle.plan_rules.specs.Claims.{claim_after, is_reply}
use Rattle.plan_rules.proofs.Above.{above}
use Rattle.adapt_hold.specs.Holding.{Holding, IsTied, shows, shows_then, history_then, original_in, adapted_in, Brings, BringsNone}
use Rattle.adapt_hold.specs.Holding.{then_from, moved, byte_at}
use Rattle.plan_rules.specs.Room.{claim_then}

-- Tapes.

-- a tape that takes bytes and whose base moves on has as many as lie from there to the new end
pub then_from-length : (t : Span) (bytes : List ℕ) (place : ℕ) → t.base ≤ place → place ≤ t.base + length t.bytes + length bytes
    → length (then_from t bytes place).bytes + place ≡ t.base + length t.bytes + length bytes
then_from-length t bytes place low high =
    rw (length-drop (place - t.base) (t.bytes ++ bytes), length-append t.bytes bytes) (omega arith)

-- a tape that takes bytes and whose base moves on ends by just those bytes later
pub then_from-end : (t : Span) (bytes : List ℕ) (place : ℕ) → t.base ≤ place → place ≤ t.base + length t.bytes + length bytes
    → span_end (then_from t bytes place) ≡ span_end t + length bytes
then_from-end t bytes place low high = let e = then_from-length t bytes place low high in omega arith

-- a tape that takes no byte has its bytes from the place on
pub then_from-none : (t : Span) (place : ℕ) → then_from t [] place ≡ span_from t place
then_from-none t place = ap (λ (bs : List ℕ). span_from (record t { bytes = bs }) place) (append-nil t.bytes)

-- of a list from which none is dropped all is left
drop_none : (k : ℕ) (bs : List ℕ) → k ≡ 0 → drop k bs ≡ bs
drop_none k bs e = rw e refl

-- a tape cut at its base stays as it was
pub from_base : (t : Span) (place : ℕ) → place ≡ t.base → span_from t place ≡ t
from_base t place e =
    let d : drop (place - t.base) t.bytes ≡ t.bytes = drop_none _ t.bytes (omega arith) in
    rw d (ap (λ (b : ℕ). record { base = b; bytes = t.bytes }) e)

-- a tape that takes bytes and keeps its base has them at its end
pub then_from-base : (t : Span) (bytes : List ℕ) (place : ℕ) → place ≡ t.base
    → then_from t bytes place ≡ record t { bytes = t.bytes ++ bytes }
then_from-base t bytes place e = from_base (record t { bytes = t.bytes ++ bytes }) place e

-- all bytes of a tape, and those that come, are let go
pub then_from-all : (t : Span) (bytes : List ℕ) (place : ℕ) → length t.bytes + length bytes + t.base ≤ place
    → then_from t bytes place ≡ span_from t place
then_from-all t bytes place h =
    let all : drop (place - t.base) (t.bytes ++ bytes) ≡ [] =
    drop_all (place - t.base) (t.bytes ++ bytes) (rw (length-append t.bytes bytes) (omega arith)) in
    let own : drop (place - t.base) t.bytes ≡ [] = drop_all (place - t.base) t.bytes (omega arith) in
    ap (λ (bs : List ℕ). record { base = place; bytes = bs }) (all ∙ sym own)

-- Steps.

-- an event that may follow, with just the bytes that it counts
pub record Steps (h : Holding) (event : Event) (bytes : List ℕ) : Type 0 where
  pub may : MayFollow h.history.plan h.history.events event
  pub original : length (original_in event bytes) ≡ in_bytes event
  pub adapted : length (adapted_in event bytes) ≡ ad_bytes event

-- an event that may follow with just the bytes that it counts is a step
pub brings : (h : Holding) (event : Event) (bytes : List ℕ) → MayFollow h.history.plan h.history.events event → Brings event bytes
    → Steps h event bytes
brings h (In n) bytes m b = record { may = m; original = b; adapted = refl }
brings h (Ad n) bytes m b = record { may = m; original = refl; adapted = b }
brings h End bytes m b = elim b [ ]
brings h (Svc n) bytes m b = elim b [ ]
brings h Stop bytes m b = elim b [ ]
brings h Heard bytes m b = elim b [ ]
brings h Retry bytes m b = elim b [ ]
brings h Continue bytes m b = elim b [ ]
brings h NoMod bytes m b = elim b [ ]
brings h (Mod body) bytes m b = elim b [ ]
brings h AdEnd bytes m b = elim b [ ]
brings h (Usr n) bytes m b = elim b [ ]
brings h Done bytes m b = elim b [ ]
brings h (Fail cause) bytes m b = elim b [ ]

-- an event that may follow and brings no bytes is a step without any
pub brings_none : (h : Holding) (event : Event) → MayFollow h.history.plan h.history.events event → BringsNone event → Steps h event []
brings_none h End m b = record { may = m; original = refl; adapted = refl }
brings_none h (Svc n) m b = record { may = m; original = refl; adapted = refl }
brings_none h Stop m b = record { may = m; original = refl; adapted = refl }
brings_none h Heard m b = record { may = m; original = refl; adapted = refl }
brings_none h Retry m b = record { may = m; original = refl; adapted = refl }
brings_none h Continue m b = record { may = m; original = refl; adapted = refl }
brings_none h NoMod m b = record { may = m; original = refl; adapted = refl }
brings_none h (Mod body) m b = record { may = m; original = refl; adapted = refl }
brings_none h AdEnd m b = record { may = m; original = refl; adapted = refl }
brings_none h (Usr n) m b = record { may = m; original = refl; adapted = refl }
brings_none h Done m b = record { may = m; original = refl; adapted = refl }
brings_none h (Fail cause) m b = record { may = m; original = refl; adapted = refl }
brings_none h (In n) m b = elim b [ ]
brings_none h (Ad n) m b = elim b [ ]

-- what is known of a tied holding and one step of it, as numbers
pub record Numbers (h : Holding) (event : Event) (bytes : List ℕ) : Type 0 where
  pub sound : Sound (shows h.history)
  pub sound_then : Sound (shows_then h.history event)
  pub legal : IsLegal h.history.plan (norm (event ∷ h.history.events))
  pub same : shows (history_then h.history event) ≡ shows_then h.history event
  pub original_base : h.original.base ≡ original_from (shows h.history)
  pub original_end : span_end h.original ≡ (shows h.history).received
  pub adapted_base : h.adapted.base ≡ adapted_from (shows h.history)
  pub adapted_end : span_end h.adapted ≡ (shows h.history).adapted_received
  pub original_low : h.original.base ≤ original_from (shows_then h.history event)
  pub adapted_low : h.adapted.base ≤ adapted_from (shows_then h.history event)
  pub received : (shows_then h.history event).received ≡ span_end h.original + length (original_in event bytes)
  pub came : (shows_then h.history event).adapted_received ≡ span_end h.adapted + length (adapted_in event bytes)
  pub original_high : original_from (shows_then h.history event) ≤ (shows_then h.history event).received
  pub adapted_high : adapted_from (shows_then h.history event) ≤ (shows_then h.history event).adapted_received

-- the numbers of a tied holding and of a step are those of its history, its tapes and the bytes that came
pub numbers : (h : Holding) (event : Event) (bytes : List ℕ) → IsTied h → Steps h event bytes → Numbers h event bytes
numbers h event bytes t s =
    let x : Seen = shows h.history in
    let sx : Sound x = sound h.history.plan h.history.events t.legal in
    let sy : Sound (after x event) = sound-after x event sx s.may.1 in
    let n = norm-shows h.history.plan (event ∷ h.history.events) (s.may, t.legal) in
    let ob : h.original.base ≡ original_from x = ap (λ (p : ℕ × ℕ). p.0) t.original in
    let oe : span_end h.original ≡ x.received = ap (λ (p : ℕ × ℕ). p.1) t.original in
    let ab : h.adapted.base ≡ adapted_from x = ap (λ (p : ℕ × ℕ). p.0) t.adapted in
    let ae : span_end h.adapted ≡ x.adapted_received = ap (λ (p : ℕ × ℕ). p.1) t.adapted in
    let rises : original_from x ≤ original_from (after x event) = original_grows x event sx s.may.0 s.may.1 in
    let rises_too : adapted_from x ≤ adapted_from (after x event) = adapted_grows x event sx s.may.0 s.may.1 in
    let io : length (original_in event bytes) ≡ in_bytes event = s.original in
    let ia : length (adapted_in event bytes) ≡ ad_bytes event = s.adapted in
    record {
      sound = sx;
      sound_then = sy;
      legal = n.legal;
      same = n.same;
      original_base = ob;
      original_end = oe;
      adapted_base = ab;
      adapted_end = ae;
      original_low = omega arith;
      adapted_low = omega arith;
      received = omega arith;
      came = omega arith;
      original_high = original_within _ sy;
      adapted_high = adapted_within _ sy;
    }

-- a step whose held bytes fit the claim after it keeps the holding tied
pub moved-tied : (h : Holding) (event : Event) (bytes : List ℕ) → IsTied h → Steps h event bytes
    → held_places (shows_then h.history event) ≤ claim_then (shows_then h.history event) event h.claim h.limits.window
    → IsTied (moved h event bytes)
moved-tied h event bytes t s w =
    let y : Seen = shows_then h.history event in
    let n = numbers h event bytes t s in
    let oh : original_from y ≤ h.original.base + length h.original.bytes + length (original_in event bytes) = omega arith in
    let ah : adapted_from y ≤ h.adapted.base + length h.adapted.bytes + length (adapted_in event bytes) = omega arith in
    let oe : span_end (then_from h.original (original_in event bytes) (original_from y)) ≡ y.received =
    then_from-end h.original (original_in event bytes) (original_from y) n.original_low oh ∙ sym n.received in
    let ae : span_end (then_from h.adapted (adapted_in event bytes) (adapted_from y)) ≡ y.adapted_received =
    then_from-end h.adapted (adapted_in event bytes) (adapted_from y) n.adapted_low ah ∙ sym n.came in
    let ol = then_from-length h.original (original_in event bytes) (original_from y) n.original_low oh in
    let al = then_from-length h.adapted (adapted_in event bytes) (adapted_from y) n.adapted_low ah in
    record {
      legal = n.legal;
      original = ap (λ (k : ℕ). (original_from y, k)) oe ∙ sym (ap held_original n.same);
      adapted = ap (λ (k : ℕ). (adapted_from y, k)) ae ∙ sym (ap held_adapted n.same);
      held = omega arith;
      within = w;
    }

-- a tied holding holds as many bytes as its history holds places
pub held_before : (h : Holding) → IsTied h → held_places (shows h.history) ≡ h.held
held_before h t =
    let x : Seen = shows h.history in
    let sx : Sound x = sound h.history.plan h.history.events t.legal in
    let ob : h.original.base ≡ original_from x = ap (λ (p : ℕ × ℕ). p.0) t.original in
    let oe : span_end h.original ≡ x.received = ap (λ (p : ℕ × ℕ). p.1) t.original in
    let ab : h.adapted.base ≡ adapted_from x = ap (λ (p : ℕ × ℕ). p.0) t.adapted in
    let ae : span_end h.adapted ≡ x.adapted_received = ap (λ (p : ℕ × ℕ). p.1) t.adapted in
    let hd = t.held in
    omega arith

-- what a step that brings no bytes leaves is no more than before
pub less_held : (h : Holding) (event : Event) → IsTied h → Steps h event [] → BringsNone event
    → held_places (shows_then h.history event) ≤ h.held
less_held h event t s b =
    let n = numbers h event [] t s in
    let before = held_before h t in
    let none : length (original_in event []) ≡ 0 = no_original event in
    let none_too : length (adapted_in event []) ≡ 0 = no_adapted event in
    omega arith
  where
    no_original : (event : Event) → length (original_in event []) ≡ 0
    no_original (In n) = refl
    no_original _ = refl

    no_adapted : (event : Event) → length (adapted_in event []) ≡ 0
    no_adapted (Ad n) = refl
    no_adapted _ = refl

-- what fits the claim, and the claim that it falls to at a response, fits the claim after an event
claim_fits : (x : Seen) (event : Event) (held claim window : ℕ) → (is_reply event ≡ true → held ≤ claim_after x claim window) → held ≤ claim
    → held ≤ claim_then x event claim window
claim_fits x Continue held claim window r h = r refl
claim_fits x NoMod held claim window r h = r refl
claim_fits x (Mod body) held claim window r h = r refl
claim_fits x _ held claim window r h = h

-- and fits the claim after it
pub still_fits : (h : Holding) (event : Event) → IsTied h → Steps h event [] → BringsNone event
    → held_places (shows_then h.history event) ≤ claim_then (shows_then h.history event) event h.claim h.limits.window
still_fits h event t s b =
    let n = numbers h event [] t s in
    let less = less_held h event t s b in
    let before : held_places (shows h.history) ≤ h.claim = let e = held_before h t in let w = t.within in omega arith in
    let under : held_places (shows_then h.history event) ≤ h.claim = let w = t.within in omega arith in
    claim_fits (shows_then h.history event) event (held_places (shows_then h.history event)) h.claim h.limits.window
    (λ r. above (shows h.history) event h.claim h.limits.window n.sound s.may.0 s.may.1 r before) under

-- Bytes that stay.

-- after an event the original is held from its tape's base on, or from a later place
pub original_low : (h : Holding) (event : Event) → IsTied h → MayFollow h.history.plan h.history.events event
    → h.original.base ≤ original_from (shows_then h.history event)
original_low h event t m =
    let ob : h.original.base ≡ original_from (shows h.history) = ap (λ (p : ℕ × ℕ). p.0) t.original in
    let rises = original_grows (shows h.history) event (sound h.history.plan h.history.events t.legal) m.0 m.1 in
    omega arith

-- after an event the adapted body is held from its tape's base on, or from a later place
pub adapted_low : (h : Holding) (event : Event) → IsTied h → MayFollow h.history.plan h.history.events event
    → h.adapted.base ≤ adapted_from (shows_then h.history event)
adapted_low h event t m =
    let ob : h.adapted.base ≡ adapted_from (shows h.history) = ap (λ (p : ℕ × ℕ). p.0) t.adapted in
    let rises = adapted_grows (shows h.history) event (sound h.history.plan h.history.events t.legal) m.0 m.1 in
    omega arith

-- a byte of a tape at or after its new base is the same once bytes come
pub byte_stays : (t : Span) (bytes : List ℕ) (from place : ℕ) → t.base ≤ from → from ≤ place → place < span_end t
    → byte_at (then_from t bytes from) place ≡ byte_at t place
byte_stays t bytes from place base low high =
    let at : (from - t.base) + (place - from) ≡ place - t.base = omega arith in
    let within : place - t.base < length t.bytes = omega arith in
    get_or-drop (from - t.base) (t.bytes ++ bytes) (place - from) 0
    ∙ ap (λ (k : ℕ). get_or (t.bytes ++ bytes) k 0) at
    ∙ get_or_append_left t.bytes bytes 0 (place - t.base) within
