-- A step that is allowed keeps a journal sound.
use Rattle.std.proofs.Common.{◌≡◌, ℕ, ◌-◌, ◌≤◌, ◌<◌, List, [], ◌∷◌, ◌++◌, length, drop, refl, sym, ap, ◌∙◌, subst, arith, length-append}
use Rattle.std.proofs.Common.{Some}
use Rattle.std.specs.Prelude.{slice_get}
use Rattle.std.proofs.lemmas.Option.{slice_get_within, get_or_from_slice_get}
use Rattle.std.proofs.lemmas.Grind.{common_steps}
use Rattle.circular_buffer.specs.Buffer.{Buffer, buffer, keep_last}
use Rattle.service_pool.specs.declared.step.Numbers.{Numbers}
use Rattle.service_pool.specs.declared.step.PoolStep.{PoolStep}
use Rattle.service_pool.specs.declared.step.PoolStep.TheVariants.{Take, Put, GiveUp, Replace, Limit}
use Rattle.service_pool.specs.Replay.{after, replay}
use Rattle.service_pool.specs.Journal.{Journaled, IsAllowed, AreAllowed, pushed, IsBounded, IsSound}

-- a replay goes by parts
pub replay-append : (b : Numbers) (xs ys : List PoolStep) → replay b (xs ++ ys) ≡ replay (replay b xs) ys
replay-append b [] ys = refl
replay-append b (x ∷ xs) ys = replay-append (after b x) xs ys

-- a step that is allowed after allowed ones makes a longer list of them
allowed-push : (b : Numbers) (ss : List PoolStep) (s : PoolStep) → AreAllowed b ss → IsAllowed (replay b ss) s → AreAllowed b (ss ++ s ∷ [])
allowed-push b [] s all m = (m, tt)
allowed-push b (x ∷ xs) s all m = (all.0, allowed-push (after b x) xs s all.1 m)

-- the numbers after a step that they allow are in their bounds
pub bounded-after : (n : Numbers) (step : PoolStep) → IsBounded n → IsAllowed n step → IsBounded (after n step)
bounded-after n Take b allowed = grind (arith, common_steps)
bounded-after n Put b allowed = grind (arith, common_steps)
bounded-after n GiveUp b allowed = grind (arith, common_steps)
bounded-after n Replace b allowed = b
bounded-after n (Limit most) b allowed = grind (arith, common_steps)

-- a sound journal stays so by a step that its numbers allow and that it has room for
sound-pushed : (j : Journaled) (s : PoolStep) → IsSound j → IsAllowed j.numbers s → length j.steps < j.room → IsSound (pushed j s)
sound-pushed j s h m less =
    let P : Numbers → Type 0 = λ n. IsAllowed n s in
    record {
      replayed = replay-append j.base j.steps (s ∷ []) ∙ ap (λ b. after b s) h.replayed;
      start = h.start;
      allowed = allowed-push j.base j.steps s h.allowed (subst P (sym h.replayed) m);
      bounded = bounded-after j.numbers s h.bounded m;
      steps = omega (arith, length-append j.steps (s ∷ []), less);
      room = h.room;
    }

-- the same of the fields that a journal shows
pub sound-fields : (j shown : Journaled) (s : PoolStep) (n : Numbers) (ss : List PoolStep) → j ≡ shown → IsSound j
    → IsAllowed shown.numbers s
    → length shown.steps < shown.room → n ≡ after j.numbers s → ss ≡ j.steps ++ s ∷ [] → IsSound (record j { numbers = n; steps = ss })
sound-fields j shown s n ss same h m less is more =
    let P : Journaled → Type 0 = λ k. IsAllowed k.numbers s × (length k.steps < k.room) in
    let premises = subst P (sym same) (m, less) in
    rw (is, more) (sound-pushed j s h premises.0 premises.1)

-- a list that fits is kept whole
pub keep_all : (n : ℕ) (ss : List PoolStep) → length ss ≤ n → keep_last n ss ≡ ss
keep_all n ss le = let none : length ss - n ≡ 0 = omega (arith, le) in ap (λ k. drop k ss) none

-- the same of the fields that a window shows, and of its ring after a push
pub sound-ring : (j shown : Journaled) (s : PoolStep) (n : Numbers) (ring : Buffer PoolStep) → j ≡ shown → IsSound j
    → IsAllowed shown.numbers s
    → length shown.steps < shown.room → n ≡ after j.numbers s → ring ≡ buffer (keep_last j.room (j.steps ++ s ∷ [])) j.room
    → IsSound (record j { numbers = n; steps = ring.items; room = ring.capacity })
sound-ring j shown s n ring same h m less is more =
    let P : Journaled → Type 0 = λ k. IsAllowed k.numbers s × (length k.steps < k.room) in
    let premises = subst P (sym same) (m, less) in
    let fits : length (j.steps ++ s ∷ []) ≤ j.room = omega (arith, length-append j.steps (s ∷ []), premises.1) in
    rw (is, more, keep_all j.room (j.steps ++ s ∷ []) fits) (sound-pushed j s h premises.0 premises.1)

-- a sound window is so without its oldest step, which goes into the base
sound-first : (j : Journaled) (s : PoolStep) (ss : List PoolStep) → IsSound (record j { steps = s ∷ ss })
    → IsSound (record j { base = after j.base s; steps = ss })
sound-first j s ss h =
    record {
      replayed = h.replayed;
      start = bounded-after j.base s h.start h.allowed.0;
      allowed = h.allowed.1;
      bounded = h.bounded;
      steps = omega (arith, h.steps);
      room = h.room;
    }

-- a sound window stays so as its oldest step goes into the base
sound-slid : (j : Journaled) (s : PoolStep) (ss : List PoolStep) (b : Numbers) → IsSound j → j.steps ≡ s ∷ ss → b ≡ after j.base s
    → IsSound (record j { base = b; steps = ss })
sound-slid j s ss b h e is =
    let P : List PoolStep → Type 0 = λ l. IsSound (record j { steps = l }) in
    rw is (sound-first j s ss (subst P e h))

-- a list whose first element is known
first-of : (ss : List PoolStep) (s : PoolStep) → slice_get ss 0 ≡ Some s → ss ≡ s ∷ drop 1 ss
first-of [] s e = let no : ⊥ = omega (arith, slice_get_within [] 0 s e) in absurd no
first-of (x ∷ ss) s e = ap (λ y. y ∷ ss) (get_or_from_slice_get (x ∷ ss) 0 s s e)

-- the same of the fields that a window shows, and of its ring without the first
pub sound-slid_ring : (j : Journaled) (s : PoolStep) (b : Numbers) (ring : Buffer PoolStep) → IsSound j → slice_get j.steps 0 ≡ Some s
    → b ≡ after j.base s
    → ring ≡ buffer (drop 1 j.steps) j.room → IsSound (record j { base = b; steps = ring.items; room = ring.capacity })
sound-slid_ring j s b ring h e is more = rw more (sound-slid j s (drop 1 j.steps) b h (first-of j.steps s e) is)
