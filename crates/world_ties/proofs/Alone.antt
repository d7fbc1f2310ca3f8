-- A tied holding takes a held byte's script by itself, and the last event sends the byte.
use Rattle.std.proofs.Common.{◌≡◌, ℕ, ◌<◌, ◌≤◌, ◌⊎◌, inl, inr, false, List, [], ◌∷◌, length, take, drop, Some, arith, refl, sym, subst}
use Rattle.std.proofs.Common.{ap, ◌∙◌}
use Rattle.std.proofs.lemmas.List.{length-take-le}
use Rattle.trace_core.specs.declared.history.Event.{Event}
use Rattle.trace_core.specs.declared.history.Event.TheVariants.{In, Svc, Continue, NoMod, Mod, Ad, Usr}
use Rattle.trace_core.specs.declared.history.Seen.{Seen}
use Rattle.trace_core.specs.declared.tape.Tape.{Tape}
use Rattle.trace_core.specs.declared.tape.Tape.TheVariants.{Original, Adapted}
use Rattle.trace_core.specs.History.{History, is_retry}
use Rattle.trace_core.specs.Legal.{MayFollow}
use Rattle.trace_core.specs.Held.{IsIn, Sends, held_on, held_places, original_from, adapted_from}
use Rattle.trace_core.specs.Turns.{MayAllFollow}
use Rattle.trace_core.specs.View.{after}
use Rattle.trace_core.proofs.Sound.{sound}
use Rattle.need_witness.specs.Replay.{Leads}
use Rattle.need_witness.specs.Table.{script_of}
use Rattle.need_witness.proofs.Scripted.{leads}
use Rattle.plan_rules.specs.Room.{claim_then}
use Rattle.plan_rules.proofs.Above.{falls}
use Rattle.adapt_hold.specs.Spans.{Span, span_end}
use Rattle.adapt_hold.specs.Holding.{Holding, IsTied, BringsNone, shows, shows_then, history_then, moved, byte_at, original_in, adapted_in}
use Rattle.adapt_hold.specs.Steps.{brought, brought_all}
use Rattle.adapt_hold.proofs.Tied.{Steps, brings, brings_none, moved-tied, still_fits, held_before, numbers, then_from-end, byte_stays}
use Rattle.adapt_hold.proofs.Closes.{then_shows}
use Rattle.adapt_hold.proofs.Bodies.{to_service, original_to_next, adapted_to_next}
use Rattle.world_core.proofs.Following.{Follows, follows}
use Rattle.world_ties.specs.Alone.{IsWide, IsTaken, BankTakes, RunsAlone, SendsByte, tape_of}
use Rattle.world_ties.proofs.Scripts.{AreQuiet, FirstIn, scripted}
use Rattle.world_ties.proofs.Counted.{bank_takes}

-- One step.

-- no event raises the reservation
claim_falls : (x : Seen) (event : Event) (claim window : ℕ) → claim_then x event claim window ≤ claim
claim_falls x Continue claim window = falls x claim window
claim_falls x NoMod claim window = falls x claim window
claim_falls x (Mod payload) claim window = falls x claim window
claim_falls x _ claim window = omega arith

-- an event that brings no bytes takes none of those that wait
none_brought : (event : Event) (bytes : List ℕ) → BringsNone event → take (brought event) bytes ≡ []
none_brought (In n) bytes b = absurd b
none_brought (Ad n) bytes b = absurd b
none_brought _ bytes b = refl

-- the bank takes what a step does
step_banks : (h : Holding) (event : Event) (bytes : List ℕ) → IsTied h → IsTied (moved h event bytes) → BankTakes h (moved h event bytes)
step_banks h event bytes t n =
    bank_takes h (moved h event bytes) t.within n.within (claim_falls (shows_then h.history event) event h.claim h.limits.window)

-- what is seen after it
step_shows : (h : Holding) (event : Event) (bytes : List ℕ) → IsTied h → MayFollow h.history.plan h.history.events event
    → shows (moved h event bytes).history ≡ after (shows h.history) event
step_shows h event bytes t m = then_shows h event (history_then h.history event) t m refl

-- a tied holding stays tied after an event that may follow and brings no bytes
quiet_tied : (h : Holding) (event : Event) → IsTied h → MayFollow h.history.plan h.history.events event → BringsNone event
    → IsTied (moved h event [])
quiet_tied h event t m b = let s = brings_none h event m b in moved-tied h event [] t s (still_fits h event t s b)

-- a byte that comes after the base of a tape stays on it
record Keeps (old new : Span) (place : ℕ) : Type 0 where
  low : old.base ≤ new.base
  end : place < span_end new
  byte : new.base ≤ place → byte_at new place ≡ byte_at old place

-- after an event of a tied holding a place before a tape's end still is, no base is lower, and a kept byte is the same
keeps : (tape : Tape) (h : Holding) (event : Event) (bytes : List ℕ) (place : ℕ) → IsTied h → Steps h event bytes
    → place < span_end (tape_of tape h) → Keeps (tape_of tape h) (tape_of tape (moved h event bytes)) place
keeps Original h event bytes place t s p =
    let n = numbers h event bytes t s in
    let high = n.original_high in let came = n.received in
    let from : ℕ = original_from (shows_then h.history event) in
    let end = then_from-end h.original (original_in event bytes) from n.original_low (omega arith) in
    record {
      low = n.original_low;
      end = omega arith;
      byte = λ base. byte_stays h.original (original_in event bytes) from place n.original_low base p;
    }
keeps Adapted h event bytes place t s p =
    let n = numbers h event bytes t s in
    let high = n.adapted_high in let came = n.came in
    let from : ℕ = adapted_from (shows_then h.history event) in
    let end = then_from-end h.adapted (adapted_in event bytes) from n.adapted_low (omega arith) in
    record {
      low = n.adapted_low;
      end = omega arith;
      byte = λ base. byte_stays h.adapted (adapted_in event bytes) from place n.adapted_low base p;
    }

-- what is sent is on its tape
on_tape : (tape : Tape) (place : ℕ) (h : Holding) (event : Event) → IsTied h → MayFollow h.history.plan h.history.events event
    → Sends tape (shows h.history) event place → (tape_of tape h).base ≤ place
on_tape Original place h (Svc n) t m s = let e = (to_service h n t m).0 in let low = s.0 in omega arith
on_tape Original place h (Usr n) t m s = let e = (original_to_next h n t m s.0).0 in let low = s.1.0 in omega arith
on_tape Adapted place h (Usr n) t m s = let e = (adapted_to_next h n t m s.0).0 in let low = s.1.0 in omega arith
on_tape Original place h _ t m s = absurd s
on_tape Adapted place h _ t m s = absurd s

-- Events that bring nothing.

-- a tied holding takes by itself a script without bytes and retries that may follow
runs_quiet : (h : Holding) (script : List Event) (bytes : List ℕ) → IsTied h → AreQuiet script → MayAllFollow (shows h.history) script
    → RunsAlone h script bytes
runs_quiet h [] bytes t q m = tt
runs_quiet h (event ∷ script) bytes t q m =
    let may : MayFollow h.history.plan h.history.events event = (m.0, m.1) in
    let tied : IsTied (moved h event []) = quiet_tied h event t may q.0 in
    let rest : MayAllFollow (shows (moved h event []).history) script =
    subst (λ (x : Seen). MayAllFollow x script) (sym (step_shows h event [] t may)) m.2 in
    subst (λ (own : List ℕ). (is_retry event ≡ false) × IsTaken h event own × BankTakes h (moved h event own)
    × RunsAlone (moved h event own) script (drop (brought event) bytes))
    (sym (none_brought event bytes q.0)) (
      q.1,
      (may, inr (q.0, refl)),
      step_banks h event [] t tied,
      runs_quiet (moved h event []) script (drop (brought event) bytes) tied q.2 rest,
    )

-- the byte is on its tape, and is sent at the end
abbrev Sent : Tape → ℕ → Holding → List Event → List ℕ → Type 0
Sent tape place h script bytes =
    ((tape_of tape h).base ≤ place) × SendsByte tape place (byte_at (tape_of tape h) place) h script bytes

-- a byte that stays on its tape after an event, and is sent then, is sent with that event before
sent_then : (tape : Tape) (place : ℕ) (h : Holding) (event next : Event) (script : List Event) (bytes own : List ℕ)
    → own ≡ take (brought event) bytes
    → Keeps (tape_of tape h) (tape_of tape (moved h event own)) place
    → Sent tape place (moved h event own) (next ∷ script) (drop (brought event) bytes) → Sent tape place h (event ∷ next ∷ script) bytes
sent_then tape place h event next script bytes own e k r =
    let low = k.low in let base = r.0 in
    let others : List ℕ = drop (brought event) bytes in
    let same : SendsByte tape place (byte_at (tape_of tape h) place) (moved h event own) (next ∷ script) others =
    subst (λ (byte : ℕ). SendsByte tape place byte (moved h event own) (next ∷ script) others) (k.byte base) r.1 in (
      omega arith,
      subst (λ (bs : List ℕ). SendsByte tape place (byte_at (tape_of tape h) place) (moved h event bs) (next ∷ script) others) e same,
    )

-- a script without bytes and retries that leads a tied holding to a place before its tape's end sends its byte
sends_quiet : (tape : Tape) (place : ℕ) (h : Holding) (script : List Event) (bytes : List ℕ) → IsTied h → AreQuiet script
    → Leads tape place (shows h.history) script → place < span_end (tape_of tape h) → Sent tape place h script bytes
sends_quiet tape place h [] bytes t q l p = absurd l
sends_quiet tape place h (event ∷ []) bytes t q l p =
    let base = on_tape tape place h event t l.0 l.1 in (base, (l.1, (base, p), refl))
sends_quiet tape place h (event ∷ next ∷ script) bytes t q l p =
    let may : MayFollow h.history.plan h.history.events event = l.0 in
    let k = keeps tape h event [] place t (brings_none h event may q.0) p in
    sent_then tape place h event next script bytes [] (sym (none_brought event bytes q.0)) k
    (sends_quiet tape place (moved h event []) (next ∷ script) (drop (brought event) bytes) (quiet_tied h event t may q.0) q.2
    (subst (λ (x : Seen). Leads tape place x (next ∷ script)) (sym (step_shows h event [] t may)) l.1) k.end)

-- Bytes of the source come first.

-- each event of a script that may follow with a lease and a claim may follow those before it
may_all : (claim : ℕ) (x : Seen) (script : List Event) → Follows (Some 0) claim x script → MayAllFollow x script
may_all claim x [] f = tt
may_all claim x (event ∷ script) f = (f.0.0, f.0.1, may_all claim (after x event) script f.3)

-- where all bytes of a script are there, its first event's bytes are as many as it counts
own_bytes : (n : ℕ) (rest : List Event) (bytes : List ℕ) → brought_all (In n ∷ rest) ≤ length bytes
    → length (take (brought (In n)) bytes) ≡ n
own_bytes n rest bytes c = let own = length-take-le (brought (In n)) bytes (omega (arith, c)) in omega arith

-- a tied holding stays tied after bytes of the source that its reservation has room for
in_tied : (h : Holding) (n : ℕ) (own : List ℕ) → IsTied h → Steps h (In n) own → held_places (shows_then h.history (In n)) ≤ h.claim
    → IsTied (moved h (In n) own)
in_tied h n own t s room = moved-tied h (In n) own t s room

-- a tied holding takes by itself a script that may follow and brings only source bytes, first, if they are there
runs_first : (h : Holding) (n : ℕ) (rest : List Event) (bytes : List ℕ) → IsTied h → AreQuiet rest
    → Follows (Some 0) h.claim (shows h.history) (In n ∷ rest)
    → brought_all (In n ∷ rest) ≤ length bytes → RunsAlone h (In n ∷ rest) bytes
runs_first h n rest bytes t q f c =
    let own : List ℕ = take (brought (In n)) bytes in
    let count = own_bytes n rest bytes c in
    let tied : IsTied (moved h (In n) own) = in_tied h n own t (brings h (In n) own f.0 count) f.2 in
    let may : MayAllFollow (shows (moved h (In n) own).history) rest =
    subst (λ (x : Seen). MayAllFollow x rest) (sym (step_shows h (In n) own t f.0))
    (may_all h.claim (after (shows h.history) (In n)) rest f.3) in (
      refl,
      (f.0, inl (count, λ m. f.2)),
      step_banks h (In n) own t tied,
      runs_quiet (moved h (In n) own) rest (drop (brought (In n)) bytes) tied q may,
    )

-- bytes that come from the source send no place
no_sent_in : (tape : Tape) (x : Seen) (n place : ℕ) → Sends tape x (In n) place → ⊥
no_sent_in Original x n place s = s
no_sent_in Adapted x n place s = s

-- a script that brings only source bytes, first, and leads a tied holding to a place before its tape's end sends its byte
sends_first : (tape : Tape) (place : ℕ) (h : Holding) (n : ℕ) (rest : List Event) (bytes : List ℕ) → IsTied h → AreQuiet rest
    → Follows (Some 0) h.claim (shows h.history) (In n ∷ rest)
    → brought_all (In n ∷ rest) ≤ length bytes → Leads tape place (shows h.history) (In n ∷ rest)
    → place < span_end (tape_of tape h) → Sent tape place h (In n ∷ rest) bytes
sends_first tape place h n [] bytes t q f c l p = absurd (no_sent_in tape (shows h.history) n place l.1)
sends_first tape place h n (next ∷ rest) bytes t q f c l p =
    let own = take (brought (In n)) bytes in
    let s = brings h (In n) own f.0 (own_bytes n (next ∷ rest) bytes c) in
    let k = keeps tape h (In n) own place t s p in
    sent_then tape place h (In n) next rest bytes own refl k
    (sends_quiet tape place (moved h (In n) own) (next ∷ rest) (drop (brought (In n)) bytes) (in_tied h n own t s f.2) q
    (subst (λ (x : Seen). Leads tape place x (next ∷ rest)) (sym (step_shows h (In n) own t f.0)) l.1) k.end)

-- Both.

-- the script of a place that a tied and wide holding has held may follow within its claim
followed : (h : Holding) (tape : Tape) (place : ℕ) → IsTied h → IsWide h → IsIn (held_on tape (shows h.history)) place
    → Follows (Some 0) h.claim (shows h.history) (script_of tape (shows h.history) place)
followed h tape place t w i =
    let within : held_places (shows h.history) ≤ h.claim = let e = held_before h t in let v = t.within in omega arith in
    follows tape place (Some 0) h.claim (shows h.history) (sound h.history.plan h.history.events t.legal) w within tt i

-- a tied and wide holding takes the script of a held place by itself, where its bytes are there
pub runs_alone : (h : Holding) (tape : Tape) (place : ℕ) (bytes : List ℕ) → IsTied h → IsWide h
    → IsIn (held_on tape (shows h.history)) place → brought_all (script_of tape (shows h.history) place) ≤ length bytes
    → RunsAlone h (script_of tape (shows h.history) place) bytes
runs_alone h tape place bytes t w i c =
    by_shape (script_of tape (shows h.history) place) (scripted tape (shows h.history) place) (followed h tape place t w i) c
  where
    by_shape : (script : List Event) → AreQuiet script ⊎ FirstIn script → Follows (Some 0) h.claim (shows h.history) script
        → brought_all script ≤ length bytes → RunsAlone h script bytes
    by_shape script (inl q) f c = runs_quiet h script bytes t q (may_all h.claim (shows h.history) script f)
    by_shape script (inr s) f c =
        subst (λ (es : List Event). RunsAlone h es bytes) (sym s.is)
        (runs_first h s.count s.rest bytes t s.quiet
        (subst (Follows (Some 0) h.claim (shows h.history)) s.is f)
        (subst (λ (es : List Event). brought_all es ≤ length bytes) s.is c))

-- a held place of a tied holding is before its tape's end
end_of_held : (tape : Tape) (h : Holding) (place : ℕ) → IsTied h → IsIn (held_on tape (shows h.history)) place
    → place < span_end (tape_of tape h)
end_of_held Original h place t i = let e = ap (λ (p : ℕ × ℕ). p.1) t.original in let high = i.1 in omega arith
end_of_held Adapted h place t i = let e = ap (λ (p : ℕ × ℕ). p.1) t.adapted in let high = i.1 in omega arith

-- the script of a place that a tied and wide holding has held sends the byte now at the place, if its bytes are there
pub sends_byte : (h : Holding) (tape : Tape) (place : ℕ) (bytes : List ℕ) → IsTied h → IsWide h
    → IsIn (held_on tape (shows h.history)) place → brought_all (script_of tape (shows h.history) place) ≤ length bytes
    → SendsByte tape place (byte_at (tape_of tape h) place) h (script_of tape (shows h.history) place) bytes
sends_byte h tape place bytes t w i c =
    by_shape (script_of tape (shows h.history) place) (scripted tape (shows h.history) place) (followed h tape place t w i) c
    (leads tape (shows h.history) place (sound h.history.plan h.history.events t.legal) i)
  where
    end : place < span_end (tape_of tape h)
    end = end_of_held tape h place t i

    by_shape : (script : List Event) → AreQuiet script ⊎ FirstIn script → Follows (Some 0) h.claim (shows h.history) script
        → brought_all script ≤ length bytes → Leads tape place (shows h.history) script
        → SendsByte tape place (byte_at (tape_of tape h) place) h script bytes
    by_shape script (inl q) f c l = (sends_quiet tape place h script bytes t q l end).1
    by_shape script (inr s) f c l =
        subst (λ (es : List Event). SendsByte tape place (byte_at (tape_of tape h) place) h es bytes) (sym s.is)
        (sends_first tape place h s.count s.rest bytes t s.quiet
        (subst (Follows (Some 0) h.claim (shows h.history)) s.is f)
        (subst (λ (es : List Event). brought_all es ≤ length bytes) s.is c)
        (subst (Leads tape place (shows h.history)) s.is l) end).1

-- the script as a slice, by the history that was looked at
pub runs_slice : (h : Holding) (tape : Tape) (place : ℕ) (bytes : List ℕ) (state : History) (script slice : List Event) → IsTied h
    → IsWide h
    → IsIn (held_on tape (shows h.history)) place → brought_all (script_of tape (shows h.history) place) ≤ length bytes
    → state ≡ h.history → script ≡ script_of tape (shows state) place → slice ≡ script → RunsAlone h slice bytes
runs_slice h tape place bytes state script slice t w i c s e d =
    subst (λ (es : List Event). RunsAlone h es bytes)
    (sym (d ∙ e ∙ ap (λ (x : History). script_of tape (shows x) place) s))
    (runs_alone h tape place bytes t w i c)
