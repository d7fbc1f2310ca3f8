-- The fields of a hold after each of its calls are one step of what it held.
use Rattle.std.proofs.Common.{◌≡◌, ℕ, ◌+◌, ◌-◌, ◌<◌, ◌≤◌, ◌^◌, true, false, List, [], ◌∷◌, ◌++◌, length, arith, refl, sym, ◌∙◌, ap, subst}
use Rattle.std.proofs.lemmas.Bool.Decides.{nat_tests}
use Rattle.std.proofs.lemmas.List.{length-replicate}
use Rattle.std.proofs.Math.ListN.{replicate}
use Rattle.trace_core.specs.declared.history.Seen.{Seen}
use Rattle.trace_core.specs.declared.history.Event.{Event}
use Rattle.trace_core.specs.declared.history.Event.TheVariants.{In, End, Svc, Stop, Heard, Continue, NoMod, Mod, Ad, AdEnd, Usr, Done, Fail}
use Rattle.trace_core.specs.declared.history.Event.TheVariants.{Retry}
use Rattle.trace_core.specs.Legal.{MayFollow}
use Rattle.trace_core.specs.Held.{original_from, adapted_from, held_original, held_adapted, keeps_original, held_places}
use Rattle.trace_core.specs.View.{after}
use Rattle.trace_core.specs.History.{History}
use Rattle.trace_core.proofs.Sound.{Sound, sound, sound-after}
use Rattle.trace_core.proofs.Short.{norm-shows}
use Rattle.trace_core.proofs.Kept.{original_within, kept_in, dropped_in, none_kept}
use Rattle.trace_core.proofs.Suffices.{original_grows}
use Rattle.adapt_hold.specs.Spans.{Span, span_end, span_from, Stock}
use Rattle.plan_rules.specs.declared.limits.Limits.{Limits}
use Rattle.adapt_hold.specs.Holding.{Holding, IsTied, IsIn, shows, shows_then, history_then, Brings, BringsNone, then_from, moved}
use Rattle.adapt_hold.specs.Holding.{original_in, adapted_in, Took}
use Rattle.plan_rules.specs.Room.{claim_then}
use Rattle.adapt_hold.proofs.Tied.{brings, brings_none, numbers, moved-tied, still_fits, then_from-none, then_from-base, then_from-all}
use Rattle.adapt_hold.proofs.Tied.{from_base}

-- what a hold has in its fields is one step of what it held, and tied
pub record Closes (h : Holding) (event : Event) (bytes : List ℕ) (k : Holding) : Type 0 where
  pub tied : IsTied k
  pub is : k ≡ moved h event bytes

-- a holding that equals a step which is tied is tied, and is that step
closes : (h : Holding) (event : Event) (bytes : List ℕ) (k : Holding) → IsTied (moved h event bytes) → k ≡ moved h event bytes
    → Closes h event bytes k
closes h event bytes k t e = record { tied = subst (λ (x : Holding). IsTied x) (sym e) t; is = e }

abbrev record_of : History → Limits → Span → Span → ℕ → ℕ → Holding
record_of history limits original adapted held claim =
    record { history = history; limits = limits; original = original; adapted = adapted; held = held; claim = claim }

-- holdings with the same parts are the same
of_parts : {a b : History} {c d : Limits} {e f g i : Span} {j k l m : ℕ} → a ≡ b → c ≡ d → e ≡ f → g ≡ i → j ≡ k → l ≡ m
    → record_of a c e g j l ≡ record_of b d f i k m
of_parts e1 e2 e3 e4 e5 e6 = cc

-- holdings whose six fields are the same are the same
holding_is : (a b : Holding) → a.history ≡ b.history → a.limits ≡ b.limits → a.original ≡ b.original → a.adapted ≡ b.adapted
    → a.held ≡ b.held → a.claim ≡ b.claim → a ≡ b
holding_is a b e1 e2 e3 e4 e5 e6 = of_parts e1 e2 e3 e4 e5 e6

-- adapted bytes leave the first original place that is held as it was
same_original-ad : (x : Seen) (n : ℕ) → original_from (after x (Ad n)) ≡ original_from x
same_original-ad x n = grind (arith, nat_tests)

-- adapted bytes that come in an open history leave the first adapted place that is held as it was
same_adapted-ad : (x : Seen) (n : ℕ) → x.closed ≡ false → adapted_from (after x (Ad n)) ≡ adapted_from x
same_adapted-ad x n c = grind (arith, nat_tests)

-- bytes of the source leave the first adapted place that is held as it was
same_adapted-in : (x : Seen) (n : ℕ) → adapted_from (after x (In n)) ≡ adapted_from x
same_adapted-in x n = grind (arith, nat_tests)

-- a tape that takes no byte and keeps its base stays as it was
then_from-base-none : (t : Span) (place : ℕ) → place ≡ t.base → then_from t [] place ≡ t
then_from-base-none t place e = then_from-none t place ∙ from_base t place e

-- what keeping bytes asks of the tape and of the reservation
pub record KeepsRoom (held claim end n : ℕ) : Type 0 where
  pub some : 1 ≤ n
  pub room : held + n ≤ claim
  pub fits : end + n < 2 ^ 62

-- Ad, kept.

-- adapted bytes that may come and fit the claim find room on their tape and in the reservation
pub ad_room : (h : Holding) (bytes : List ℕ) (event : Event) → IsTied h → event ≡ Ad (length bytes)
    → MayFollow h.history.plan h.history.events event → held_places (shows_then h.history event) ≤ h.claim
    → KeepsRoom h.held h.claim (span_end h.adapted) (length bytes)
ad_room h bytes event t e = subst (λ (ev : Event). MayFollow h.history.plan h.history.events ev
    → held_places (shows_then h.history ev) ≤ h.claim → KeepsRoom h.held h.claim (span_end h.adapted) (length bytes)) (sym e)
    (at_ad h bytes t)
  where
    at_ad : (h : Holding) (bytes : List ℕ) → IsTied h → MayFollow h.history.plan h.history.events (Ad (length bytes))
        → held_places (shows_then h.history (Ad (length bytes))) ≤ h.claim
        → KeepsRoom h.held h.claim (span_end h.adapted) (length bytes)
    at_ad h bytes t m w =
        let s = brings h (Ad (length bytes)) bytes m refl in
        let n = numbers h (Ad (length bytes)) bytes t s in
        let y : Seen = shows_then h.history (Ad (length bytes)) in
        let ob : original_from y ≡ h.original.base = same_original-ad (shows h.history) (length bytes) ∙ sym n.original_base in
        let ab : adapted_from y ≡ h.adapted.base = same_adapted-ad (shows h.history) (length bytes) m.0 ∙ sym n.adapted_base in
        let held : h.held + length bytes ≡ held_places y = let q = t.held in let r = n.received in let k = n.came in omega arith in
        let small = n.sound_then.adapted_small in
        let came = n.came in
        record { some = m.1.2.0; room = omega arith; fits = omega arith }

-- adapted bytes kept at the end of their tape are one step of what was held
pub keeps_adapted : (h : Holding) (bytes : List ℕ) (event : Event) (state : History) (store : Stock) → IsTied h
    → event ≡ Ad (length bytes)
    → store ≡ record {
      original = h.original;
      adapted = record h.adapted { bytes = h.adapted.bytes ++ bytes };
      held = h.held + length bytes;
      claim = h.claim;
    }
    → MayFollow h.history.plan h.history.events event
    → state ≡ history_then h.history event
    → held_places (shows_then h.history event) ≤ h.claim
    → Closes h event bytes (record {
      history = state;
      limits = h.limits;
      original = store.original;
      adapted = store.adapted;
      held = store.held;
      claim = store.claim;
    })
keeps_adapted h bytes event state store t e se =
    subst (λ (ev : Event). MayFollow h.history.plan h.history.events ev → state ≡ history_then h.history ev
    → held_places (shows_then h.history ev) ≤ h.claim
    → Closes h ev bytes (record {
      history = state;
      limits = h.limits;
      original = store.original;
      adapted = store.adapted;
      held = store.held;
      claim = store.claim;
    })) (sym e) (at_ad h bytes state store t se)
  where
    at_ad : (h : Holding) (bytes : List ℕ) (state : History) (store : Stock) → IsTied h
        → store ≡ record {
          original = h.original;
          adapted = record h.adapted { bytes = h.adapted.bytes ++ bytes };
          held = h.held + length bytes;
          claim = h.claim;
        }
        → MayFollow h.history.plan h.history.events (Ad (length bytes))
        → state ≡ history_then h.history (Ad (length bytes))
        → held_places (shows_then h.history (Ad (length bytes))) ≤ h.claim
        → Closes h (Ad (length bytes)) bytes (record {
          history = state;
          limits = h.limits;
          original = store.original;
          adapted = store.adapted;
          held = store.held;
          claim = store.claim;
        })
    at_ad h bytes state store t se m st w =
        let s = brings h (Ad (length bytes)) bytes m refl in
        let n = numbers h (Ad (length bytes)) bytes t s in
        let y : Seen = shows_then h.history (Ad (length bytes)) in
        let ob : original_from y ≡ h.original.base = same_original-ad (shows h.history) (length bytes) ∙ sym n.original_base in
        let ab : adapted_from y ≡ h.adapted.base = same_adapted-ad (shows h.history) (length bytes) m.0 ∙ sym n.adapted_base in
        let held : h.held + length bytes ≡ held_places y = let q = t.held in let r = n.received in let k = n.came in omega arith in
        closes h (Ad (length bytes)) bytes _ (moved-tied h (Ad (length bytes)) bytes t s w)
        (holding_is _ (moved h (Ad (length bytes)) bytes) st refl
        (ap (λ (x : Stock). x.original) se ∙ sym (then_from-base-none h.original _ ob))
        (ap (λ (x : Stock). x.adapted) se ∙ sym (then_from-base h.adapted bytes _ ab))
        (ap (λ (x : Stock). x.held) se ∙ held)
        (ap (λ (x : Stock). x.claim) se))

-- In, kept.

-- bytes of a kept original that may come and fit the claim find room on its tape and in the reservation
pub in_room : (h : Holding) (bytes : List ℕ) (event : Event) → IsTied h → keeps_original (shows h.history) ≡ true
    → event ≡ In (length bytes)
    → MayFollow h.history.plan h.history.events event → held_places (shows_then h.history event) ≤ h.claim
    → KeepsRoom h.held h.claim (span_end h.original) (length bytes)
in_room h bytes event t k e = subst (λ (ev : Event). MayFollow h.history.plan h.history.events ev
    → held_places (shows_then h.history ev) ≤ h.claim → KeepsRoom h.held h.claim (span_end h.original) (length bytes)) (sym e)
    (at_in h bytes t k)
  where
    at_in : (h : Holding) (bytes : List ℕ) → IsTied h → keeps_original (shows h.history) ≡ true
        → MayFollow h.history.plan h.history.events (In (length bytes)) → held_places (shows_then h.history (In (length bytes))) ≤ h.claim
        → KeepsRoom h.held h.claim (span_end h.original) (length bytes)
    at_in h bytes t keeps m w =
        let s = brings h (In (length bytes)) bytes m refl in
        let n = numbers h (In (length bytes)) bytes t s in
        let y : Seen = shows_then h.history (In (length bytes)) in
        let ob : original_from y ≡ h.original.base = kept_in (shows h.history) (length bytes) n.sound m.0 keeps ∙ sym n.original_base in
        let ab : adapted_from y ≡ h.adapted.base = same_adapted-in (shows h.history) (length bytes) ∙ sym n.adapted_base in
        let held : h.held + length bytes ≡ held_places y = let q = t.held in let r = n.received in let k = n.came in omega arith in
        let small = n.sound_then.small in
        let came = n.received in
        record { some = m.1.1.0; room = omega arith; fits = omega arith }

-- bytes of a kept original put at the end of its tape are one step of what was held
pub keeps_original_bytes : (h : Holding) (bytes : List ℕ) (event : Event) (state : History) (store : Stock) → IsTied h
    → keeps_original (shows h.history) ≡ true
    → event ≡ In (length bytes)
    → store ≡ record {
      original = record h.original { bytes = h.original.bytes ++ bytes };
      adapted = h.adapted;
      held = h.held + length bytes;
      claim = h.claim;
    }
    → MayFollow h.history.plan h.history.events event
    → state ≡ history_then h.history event
    → held_places (shows_then h.history event) ≤ h.claim
    → Closes h event bytes (record {
      history = state;
      limits = h.limits;
      original = store.original;
      adapted = store.adapted;
      held = store.held;
      claim = store.claim;
    })
keeps_original_bytes h bytes event state store t k e se =
    subst (λ (ev : Event). MayFollow h.history.plan h.history.events ev → state ≡ history_then h.history ev
    → held_places (shows_then h.history ev) ≤ h.claim
    → Closes h ev bytes (record {
      history = state;
      limits = h.limits;
      original = store.original;
      adapted = store.adapted;
      held = store.held;
      claim = store.claim;
    })) (sym e) (at_in h bytes state store t k se)
  where
    at_in : (h : Holding) (bytes : List ℕ) (state : History) (store : Stock) → IsTied h
        → keeps_original (shows h.history) ≡ true
        → store ≡ record {
          original = record h.original { bytes = h.original.bytes ++ bytes };
          adapted = h.adapted;
          held = h.held + length bytes;
          claim = h.claim;
        }
        → MayFollow h.history.plan h.history.events (In (length bytes))
        → state ≡ history_then h.history (In (length bytes))
        → held_places (shows_then h.history (In (length bytes))) ≤ h.claim
        → Closes h (In (length bytes)) bytes (record {
          history = state;
          limits = h.limits;
          original = store.original;
          adapted = store.adapted;
          held = store.held;
          claim = store.claim;
        })
    at_in h bytes state store t keeps se m st w =
        let s = brings h (In (length bytes)) bytes m refl in
        let n = numbers h (In (length bytes)) bytes t s in
        let y : Seen = shows_then h.history (In (length bytes)) in
        let ob : original_from y ≡ h.original.base = kept_in (shows h.history) (length bytes) n.sound m.0 keeps ∙ sym n.original_base in
        let ab : adapted_from y ≡ h.adapted.base = same_adapted-in (shows h.history) (length bytes) ∙ sym n.adapted_base in
        let held : h.held + length bytes ≡ held_places y = let q = t.held in let r = n.received in let k = n.came in omega arith in
        closes h (In (length bytes)) bytes _ (moved-tied h (In (length bytes)) bytes t s w)
        (holding_is _ (moved h (In (length bytes)) bytes) st refl
        (ap (λ (x : Stock). x.original) se ∙ sym (then_from-base h.original bytes _ ob))
        (ap (λ (x : Stock). x.adapted) se ∙ sym (then_from-base-none h.adapted _ ab))
        (ap (λ (x : Stock). x.held) se ∙ held)
        (ap (λ (x : Stock). x.claim) se))

-- In, dropped.

-- bytes of the source that are dropped, with the tape's base moved on, are one step of what was held
pub drops_original : (h : Holding) (bytes : List ℕ) (event : Event) (state : History) (store : Stock) → IsTied h
    → IsIn event → Brings event bytes → keeps_original (shows h.history) ≡ false
    → MayFollow h.history.plan h.history.events event
    → state ≡ history_then h.history event
    → store ≡ record {
      original = span_from h.original (shows_then h.history event).received;
      adapted = h.adapted;
      held = h.held;
      claim = h.claim;
    }
    → Closes h event bytes (record {
      history = state;
      limits = h.limits;
      original = store.original;
      adapted = store.adapted;
      held = store.held;
      claim = store.claim;
    })
drops_original h bytes (In k) state store t i b keeps m st te =
    let s = brings h (In k) bytes m b in
    let n = numbers h (In k) bytes t s in
    let x : Seen = shows h.history in
    let y : Seen = shows_then h.history (In k) in
    let none : original_from x ≡ x.received = none_kept x n.sound m.0 keeps in
    let from : original_from y ≡ y.received = dropped_in x k n.sound m.0 keeps in
    let ab : adapted_from y ≡ h.adapted.base = same_adapted-in x k ∙ sym n.adapted_base in
    let held : h.held ≡ held_places y = let q = t.held in let r = n.received in let c = n.came in let o = n.original_base in let e =
    n.original_end in omega arith in
    let w : held_places y ≤ h.claim = let q = t.within in omega arith in
    let all : length h.original.bytes + length bytes + h.original.base ≤ original_from y = let o = n.original_base in let e =
    n.original_end in let r = n.received in omega arith in
    let ot : then_from h.original bytes (original_from y) ≡ store.original =
    then_from-all h.original bytes (original_from y) all ∙ ap (λ (p : ℕ). span_from h.original p) from
    ∙ sym (ap (λ (q : Stock). q.original) te) in
    closes h (In k) bytes _ (moved-tied h (In k) bytes t s w)
    (holding_is _ (moved h (In k) bytes) st refl (sym ot) (ap (λ (q : Stock). q.adapted) te ∙ sym (then_from-base-none h.adapted _ ab))
    (ap (λ (q : Stock). q.held) te ∙ held) (ap (λ (q : Stock). q.claim) te))
drops_original h bytes End state store t i b keeps m st te = elim i [ ]
drops_original h bytes (Svc n) state store t i b keeps m st te = elim i [ ]
drops_original h bytes Stop state store t i b keeps m st te = elim i [ ]
drops_original h bytes Heard state store t i b keeps m st te = elim i [ ]
drops_original h bytes Retry state store t i b keeps m st te = elim i [ ]
drops_original h bytes Continue state store t i b keeps m st te = elim i [ ]
drops_original h bytes NoMod state store t i b keeps m st te = elim i [ ]
drops_original h bytes (Mod body) state store t i b keeps m st te = elim i [ ]
drops_original h bytes (Ad n) state store t i b keeps m st te = elim i [ ]
drops_original h bytes AdEnd state store t i b keeps m st te = elim i [ ]
drops_original h bytes (Usr n) state store t i b keeps m st te = elim i [ ]
drops_original h bytes Done state store t i b keeps m st te = elim i [ ]
drops_original h bytes (Fail cause) state store t i b keeps m st te = elim i [ ]

-- nothing of the original is held where its bytes are dropped
pub none_to_drop : (h : Holding) → IsTied h → (shows h.history).closed ≡ false → keeps_original (shows h.history) ≡ false
    → length h.original.bytes ≡ 0
none_to_drop h t c keeps =
    let x : Seen = shows h.history in
    let sx : Sound x = sound h.history.plan h.history.events t.legal in
    let none : original_from x ≡ x.received = none_kept x sx c keeps in
    let ob : h.original.base ≡ original_from x = ap (λ (p : ℕ × ℕ). p.0) t.original in
    let oe : span_end h.original ≡ x.received = ap (λ (p : ℕ × ℕ). p.1) t.original in
    omega arith

-- All other events.

-- an event that has no bytes brings the original none
none_in : (event : Event) → original_in event [] ≡ []
none_in (In n) = refl
none_in _ = refl

-- an event that has no bytes brings the adapted body none
none_ad : (event : Event) → adapted_in event [] ≡ []
none_ad (Ad n) = refl
none_ad _ = refl

-- a step without bytes leaves of the original the bytes from the first place that is held
moved-original : (h : Holding) (event : Event) → (moved h event []).original
    ≡ span_from h.original (original_from (shows_then h.history event))
moved-original h event =
    ap (λ (bs : List ℕ). then_from h.original bs (original_from (shows_then h.history event))) (none_in event)
    ∙ then_from-none h.original (original_from (shows_then h.history event))

-- a step without bytes leaves of the adapted body the bytes from the first place that is held
moved-adapted : (h : Holding) (event : Event) → (moved h event []).adapted ≡ span_from h.adapted (adapted_from (shows_then h.history event))
moved-adapted h event =
    ap (λ (bs : List ℕ). then_from h.adapted bs (adapted_from (shows_then h.history event))) (none_ad event)
    ∙ then_from-none h.adapted (adapted_from (shows_then h.history event))

-- what is held after a step that brings nothing
pub held_after : (h : Holding) (event : Event) (held : ℕ) → IsTied h → BringsNone event → MayFollow h.history.plan h.history.events event
    → held + ((original_from (shows_then h.history event) - h.original.base) + (adapted_from (shows_then h.history event) - h.adapted.base))
    ≡ h.held
    → held ≡ held_places (shows_then h.history event)
held_after h event held t b m he =
    let n = numbers h event [] t (brings_none h event m b) in
    let none : length (original_in event []) ≡ 0 = ap (λ (bs : List ℕ). length bs) (none_in event) in
    let none_too : length (adapted_in event []) ≡ 0 = ap (λ (bs : List ℕ). length bs) (none_ad event) in
    let a = n.original_low in let b1 = n.adapted_low in let c = n.received in let d = n.came in let e = n.original_high in let f =
    n.adapted_high in
    let q = t.held in
    omega arith

-- an event that brings no bytes, with both tapes cut and the claim set, is one step of what was held
pub moves_on : (h : Holding) (event : Event) (state : History) (store : Stock) → IsTied h
    → BringsNone event
    → MayFollow h.history.plan h.history.events event
    → state ≡ history_then h.history event
    → store.original ≡ span_from h.original (original_from (shows_then h.history event))
    → store.adapted ≡ span_from h.adapted (adapted_from (shows_then h.history event))
    → store.held + ((original_from (shows_then h.history event) - h.original.base) +
    (adapted_from (shows_then h.history event) - h.adapted.base)) ≡ h.held
    → store.claim ≡ claim_then (shows_then h.history event) event h.claim h.limits.window
    → Closes h event [] (record {
      history = state;
      limits = h.limits;
      original = store.original;
      adapted = store.adapted;
      held = store.held;
      claim = store.claim;
    })
moves_on h event state store t b m st oe ae he ce =
    let s = brings_none h event m b in
    let tied = moved-tied h event [] t s (still_fits h event t s b) in
    let held : store.held ≡ (moved h event []).held = held_after h event store.held t b m he in
    closes h event [] _ tied
    (holding_is _ (moved h event []) st refl (oe ∙ sym (moved-original h event)) (ae ∙ sym (moved-adapted h event)) held ce)

-- What is read of a history once it has been put into short form.

-- a history with one more event shows, in its short form too, what it does once that event stands
pub then_shows : (h : Holding) (event : Event) (state : History) → IsTied h → MayFollow h.history.plan h.history.events event
    → state ≡ history_then h.history event → shows state ≡ shows_then h.history event
then_shows h event state t m st =
    ap (λ (x : History). shows x) st ∙ (norm-shows h.history.plan (event ∷ h.history.events) (m, t.legal)).same

-- the range of original places held is the same by the short form of the history after a step
pub held_then : (h : Holding) (event : Event) (state : History) (r : ℕ × ℕ) → IsTied h → MayFollow h.history.plan h.history.events event
    → state ≡ history_then h.history event → r ≡ held_original (shows state) → r ≡ held_original (shows_then h.history event)
held_then h event state r t m st e = e ∙ ap held_original (then_shows h event state t m st)

-- the range of adapted places held is the same by the short form of the history after a step
pub held_adapted_then : (h : Holding) (event : Event) (state : History) (r : ℕ × ℕ) → IsTied h
    → MayFollow h.history.plan h.history.events event
    → state ≡ history_then h.history event → r ≡ held_adapted (shows state) → r ≡ held_adapted (shows_then h.history event)
held_adapted_then h event state r t m st e = e ∙ ap held_adapted (then_shows h event state t m st)

-- where a tape may be cut after a step

pub record Cuts (t : Span) (place : ℕ) : Type 0 where
  pub low : t.base ≤ place
  pub high : place ≤ span_end t

-- after a step that brings no bytes the original is held from a place within its tape
pub original_cuts : (h : Holding) (event : Event) (state : History) (r : ℕ × ℕ) → IsTied h → BringsNone event
    → MayFollow h.history.plan h.history.events event
    → state ≡ history_then h.history event → r ≡ held_original (shows state) → Cuts h.original r.0
original_cuts h event state r t b m st e =
    let n = numbers h event [] t (brings_none h event m b) in
    let p : r.0 ≡ original_from (shows_then h.history event) = ap (λ (q : ℕ × ℕ). q.0) (held_then h event state r t m st e) in
    let none : length (original_in event []) ≡ 0 = ap (λ (bs : List ℕ). length bs) (none_in event) in
    let low = n.original_low in let high = n.original_high in let all = n.received in
    record { low = omega arith; high = omega arith }

-- after a step that brings no bytes the adapted body is held from a place within its tape
pub adapted_cuts : (h : Holding) (event : Event) (state : History) (r : ℕ × ℕ) → IsTied h → BringsNone event
    → MayFollow h.history.plan h.history.events event
    → state ≡ history_then h.history event → r ≡ held_adapted (shows state) → Cuts h.adapted r.0
adapted_cuts h event state r t b m st e =
    let n = numbers h event [] t (brings_none h event m b) in
    let p : r.0 ≡ adapted_from (shows_then h.history event) = ap (λ (q : ℕ × ℕ). q.0) (held_adapted_then h event state r t m st e) in
    let none : length (adapted_in event []) ≡ 0 = ap (λ (bs : List ℕ). length bs) (none_ad event) in
    let low = n.adapted_low in let high = n.adapted_high in let all = n.came in
    record { low = omega arith; high = omega arith }

-- where the original is cut when bytes of it are dropped

pub record Places (t : Span) (place : ℕ) : Type 0 where
  pub low : t.base ≤ place
  pub small : place < 2 ^ 62

-- after a step the end of the held original isn't before its tape's base, and is below the limit of counts
pub end_of_original : (h : Holding) (event : Event) (state : History) (r : ℕ × ℕ) → IsTied h
    → MayFollow h.history.plan h.history.events event
    → state ≡ history_then h.history event → r ≡ held_original (shows state) → Places h.original r.1
end_of_original h event state r t m st e =
    let x : Seen = shows h.history in
    let sx : Sound x = sound h.history.plan h.history.events t.legal in
    let sy : Sound (after x event) = sound-after x event sx m.1 in
    let ob : h.original.base ≡ original_from x = ap (λ (p : ℕ × ℕ). p.0) t.original in
    let p : r.1 ≡ (after x event).received = ap (λ (q : ℕ × ℕ). q.1) (held_then h event state r t m st e) in
    let rises = original_grows x event sx m.0 m.1 in
    let within = original_within (after x event) sy in
    let small = sy.small in
    record { low = omega arith; small = omega arith }

-- what is left on the tapes after a step without bytes fits the claim after it
pub fits_after : (h : Holding) (event : Event) (state : History) (held : ℕ) → IsTied h → BringsNone event
    → MayFollow h.history.plan h.history.events event
    → state ≡ history_then h.history event
    → held + ((original_from (shows_then h.history event) - h.original.base) + (adapted_from (shows_then h.history event) - h.adapted.base))
    ≡ h.held
    → held ≤ claim_then (shows state) event h.claim h.limits.window
fits_after h event state held t b m st he =
    let s = brings_none h event m b in
    let is : held ≡ held_places (shows_then h.history event) = held_after h event held t b m he in
    let w = still_fits h event t s b in
    subst (λ (x : Seen). held ≤ claim_then x event h.claim h.limits.window) (sym (then_shows h event state t m st))
    (subst (λ (k : ℕ). k ≤ claim_then (shows_then h.history event) event h.claim h.limits.window) (sym is) w)

pub record Some_bytes (event : Event) : Type 0 where
  pub bytes : List ℕ
  pub brings : Brings event bytes

-- for an event of the source there are bytes as many as it counts
pub some_bytes : (event : Event) → IsIn event → Some_bytes event
some_bytes (In n) i = record { bytes = replicate n 0; brings = length-replicate n 0 }
some_bytes End i = elim i [ ]
some_bytes (Svc n) i = elim i [ ]
some_bytes Stop i = elim i [ ]
some_bytes Heard i = elim i [ ]
some_bytes Retry i = elim i [ ]
some_bytes Continue i = elim i [ ]
some_bytes NoMod i = elim i [ ]
some_bytes (Mod body) i = elim i [ ]
some_bytes (Ad n) i = elim i [ ]
some_bytes AdEnd i = elim i [ ]
some_bytes (Usr n) i = elim i [ ]
some_bytes Done i = elim i [ ]
some_bytes (Fail cause) i = elim i [ ]

-- a hold whose fields are one step of what it held took that event
pub took : (h old k : Holding) (event : Event) (bytes : List ℕ) → h ≡ old → MayFollow h.history.plan h.history.events event
    → Closes h event bytes k → Took old event bytes k
took h old k event bytes v m c = subst (λ (x : Holding). Took x event bytes k) v (m, c.is)
