-- What a journal has of all steps that it took.
use Rattle.std.proofs.Common.{◌≡◌, ℕ, ◌+◌, ◌-◌, ◌≤◌, ◌<◌, ◌==◌, Bool, true, false, List, [], ◌∷◌, ◌++◌, length, drop, refl, sym, ap, ◌∙◌}
use Rattle.std.proofs.Common.{subst, arith, inl, inr, append_assoc, append-nil, length-append}
use Rattle.std.proofs.lemmas.Bool.Decides.{eqb_tells, leb_tells}
use Rattle.std.proofs.lemmas.List.{length-drop, drop-drop, drop-append-le}
use Rattle.circular_buffer.specs.Buffer.{keep_last}
use Rattle.service_pool.specs.declared.step.Numbers.{Numbers}
use Rattle.service_pool.specs.declared.step.PoolStep.{PoolStep}
use Rattle.service_pool.specs.Replay.{after}
use Rattle.service_pool.specs.Journal.{Journaled, opening, rebased, shortened, slid, pushed, stepped, run}
use Rattle.service_pool.specs.History.{HasLast}
use Rattle.service_pool.proofs.StepLemmas.{replay-append, keep_all}

-- a journal has the last of all steps still as a full one starts empty with its present numbers as its base
has_last-rebased : (start : Numbers) (past : List PoolStep) (j : Journaled) → HasLast start past j → HasLast start past (rebased j)
has_last-rebased start past j h = go (length j.steps == j.room) refl
  where
    go : (full : Bool) → (length j.steps == j.room) ≡ full → HasLast start past (rebased j)
    go true e = rw e (record { earlier = past; joined = sym (append-nil past); base = h.numbers; numbers = h.numbers })
    go false e = rw e h

-- a journal has the last of all steps still as its oldest step goes into the base
has_last-shortened : (start : Numbers) (past : List PoolStep) (j : Journaled) (ss : List PoolStep) → ss ≡ j.steps → HasLast start past j
    → HasLast start past (shortened j ss)
has_last-shortened start past j [] e h = h
has_last-shortened start past j (s ∷ ss) e h = record {
  earlier = h.earlier ++ s ∷ [];
  joined = h.joined ∙ ap (λ l. h.earlier ++ l) (sym e) ∙ sym (append_assoc h.earlier (s ∷ []) ss);
  base = ap (λ b. after b s) h.base ∙ sym (replay-append start h.earlier (s ∷ []));
  numbers = h.numbers;
}

-- a journal has the last of all steps still as a full one lets its oldest step go
has_last-slid : (start : Numbers) (past : List PoolStep) (j : Journaled) → HasLast start past j → HasLast start past (slid j)
has_last-slid start past j h = go (length j.steps == j.room) refl
  where
    go : (full : Bool) → (length j.steps == j.room) ≡ full → HasLast start past (slid j)
    go true e = rw e (has_last-shortened start past j j.steps refl h)
    go false e = rw e h

-- a journal that takes a step has the last of all steps with it
has_last-pushed : (start : Numbers) (past : List PoolStep) (j : Journaled) (s : PoolStep) → HasLast start past j
    → HasLast start (past ++ s ∷ []) (pushed j s)
has_last-pushed start past j s h = record {
  earlier = h.earlier;
  joined = ap (λ xs. xs ++ s ∷ []) h.joined ∙ append_assoc h.earlier j.steps (s ∷ []);
  base = h.base;
  numbers = ap (λ n. after n s) h.numbers ∙ sym (replay-append start past (s ∷ []));
}

-- what holds of the steps so far holds once more are taken, where making room keeps it
has_last-run : (make_room : Journaled → Journaled) → ((start : Numbers) (past : List PoolStep) (j : Journaled) → HasLast start past j
    → HasLast start past (make_room j))
    → (start : Numbers) (past : List PoolStep) (j : Journaled) (ss : List PoolStep) → HasLast start past j
    → HasLast start (past ++ ss) (run make_room j ss)
has_last-run make_room keeps start past j [] h = rw (append-nil past) h
has_last-run make_room keeps start past j (s ∷ ss) h =
    let next =
    has_last-run make_room keeps start (past ++ s ∷ []) (stepped make_room j s) ss
    (has_last-pushed start past (make_room j) s (keeps start past j h)) in
    rw (append_assoc past (s ∷ []) ss) at next

-- a window that begins with no step has, after more steps, the last of them
pub windows-have_last : (start : Journaled) (ss : List PoolStep) → start.base ≡ start.numbers → start.steps ≡ []
    → HasLast start.numbers ss (run slid start ss)
windows-have_last start ss fresh empty =
    has_last-run slid has_last-slid start.numbers [] start ss (record { earlier = []; joined = sym empty; base = fresh; numbers = refl })

-- a journal that begins with no step, and starts empty when it is full, has the last of all steps
pub rebasing-has_last : (start : Journaled) (ss : List PoolStep) → start.base ≡ start.numbers → start.steps ≡ []
    → HasLast start.numbers ss (run rebased start ss)
rebasing-has_last start ss fresh empty =
    has_last-run rebased has_last-rebased start.numbers [] start ss (record
    { earlier = []; joined = sym empty; base = fresh; numbers = refl })

-- a window without its oldest step
shortened-steps : (j : Journaled) (ss : List PoolStep) → ss ≡ j.steps
    → ((shortened j ss).steps ≡ drop 1 j.steps) × ((shortened j ss).room ≡ j.room)
shortened-steps j [] e = (sym e ∙ ap (λ l. drop 1 l) e, refl)
shortened-steps j (s ∷ ss) e = (ap (λ l. drop 1 l) e, refl)

-- the last steps with one more are the last of all with it
last-of_more : (past : List PoolStep) (s : PoolStep) (room : ℕ) → 0 < room → length (keep_last room past) ≡ room
    → drop 1 (keep_last room past) ++ s ∷ [] ≡ keep_last room (past ++ s ∷ [])
last-of_more past s room some full =
    let n = length past - room in
    let size = length-drop n past in
    let long : room ≤ length past = omega (arith, size, full) in
    let le : n + 1 ≤ length past = omega (arith, long, some) in
    let more : n + 1 ≡ length (past ++ s ∷ []) - room = omega (arith, length-append past (s ∷ []), long) in
    ap (λ l. l ++ s ∷ []) (drop-drop 1 n past) ∙ sym (drop-append-le (n + 1) past (s ∷ []) le) ∙ ap (λ k. drop k (past ++ s ∷ [])) more

-- last steps that don't fill their room, with one more, are the last of all with it
last-of_few : (past : List PoolStep) (s : PoolStep) (room : ℕ) → (length (keep_last room past) ≡ room → ⊥)
    → keep_last room past ++ s ∷ [] ≡ keep_last room (past ++ s ∷ [])
last-of_few past s room not =
    let n = length past - room in
    let size = length-drop n past in
    elim (leb_tells room (length past)) [
      | inl e ↦ let full : length (keep_last room past) ≡ room = omega (arith, size, e.1) in absurd (not full)
      | inr e ↦
          let none : n ≡ 0 = omega (arith, e.1) in
          let still : length (past ++ s ∷ []) - room ≡ 0 = omega (arith, length-append past (s ∷ []), e.1) in
          ap (λ k. drop k past ++ s ∷ []) none ∙ ap (λ k. drop k (past ++ s ∷ [])) (sym still)
    ]

-- a window of the last steps has, after one more, the last of all with it, and the same room
window-steps : (j : Journaled) (past : List PoolStep) (s : PoolStep) → 0 < j.room → j.steps ≡ keep_last j.room past
    → ((stepped slid j s).steps ≡ keep_last j.room (past ++ s ∷ [])) × ((stepped slid j s).room ≡ j.room)
window-steps j past s some e =
    elim (eqb_tells (length j.steps) j.room) [
      | inl t ↦
          let short = shortened-steps j j.steps refl in
          let full : length (keep_last j.room past) ≡ j.room = ap (λ l. length l) (sym e) ∙ t.1 in
          rw t.0 (ap (λ l. l ++ s ∷ []) (short.0 ∙ ap (λ l. drop 1 l) e) ∙ last-of_more past s j.room some full, short.1)
      | inr t ↦ rw t.0 (ap (λ l. l ++ s ∷ []) e ∙ last-of_few past s j.room (λ full. t.1 (ap (λ l. length l) e ∙ full)), refl)
    ]

-- a window of the last steps has, after several more, the last of all with them
windows-run : (j : Journaled) (past ss : List PoolStep) → 0 < j.room → j.steps ≡ keep_last j.room past
    → (run slid j ss).steps ≡ keep_last j.room (past ++ ss)
windows-run j past [] some e = e ∙ ap (λ l. keep_last j.room l) (sym (append-nil past))
windows-run j past (s ∷ ss) some e =
    let one = window-steps j past s some e in
    let P : ℕ → Type 0 = λ r. 0 < r in
    let next = windows-run (stepped slid j s) (past ++ s ∷ []) ss (subst P (sym one.1) some)
    (one.0 ∙ ap (λ r. keep_last r (past ++ s ∷ [])) (sym one.1)) in
    next ∙ ap (λ r. keep_last r (past ++ s ∷ [] ++ ss)) one.1 ∙ ap (λ l. keep_last j.room l) (append_assoc past (s ∷ []) ss)

-- a window that begins with no step has as many of the last steps as it has room for
pub windows-keep_last : (b : Numbers) (room : ℕ) (ss : List PoolStep) → 0 < room → (run slid (opening b room) ss).steps ≡ keep_last room ss
windows-keep_last b room ss some = windows-run (opening b room) [] ss some (sym (keep_all room [] (omega arith)))
