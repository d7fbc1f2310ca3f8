-- What holds of every history of allowed steps.
use Rattle.std.proofs.Common.{◌≡◌, ℕ, ◌+◌, ◌≤◌, ◌<◌, List, [], ◌∷◌, ◌++◌, count_by, cond, refl, ◌∙◌, subst, arith}
use Rattle.std.proofs.lemmas.List.Sums.{sum_by-cons}
use Rattle.std.proofs.lemmas.Grind.{common_steps}
use Rattle.service_pool.specs.declared.step.Numbers.{Numbers}
use Rattle.service_pool.specs.declared.step.PoolStep.{PoolStep}
use Rattle.service_pool.specs.declared.step.PoolStep.TheVariants.{Take, Put, GiveUp, Replace, Limit}
use Rattle.service_pool.specs.History.{is_take, is_return, is_limit}
use Rattle.service_pool.specs.Replay.{after, open_count, replay}
use Rattle.service_pool.specs.Journal.{IsWithin, IsAllowed, AreAllowed, Journaled, IsSound}
use Rattle.service_pool.proofs.StepLemmas.{replay-append}

-- a step that is allowed keeps at most the maximum open, or none idle
within-after : (n : Numbers) (step : PoolStep) → IsWithin n → IsAllowed n step → IsWithin (after n step)
within-after n Take w may = grind (arith, common_steps)
within-after n Put w may = grind (arith, common_steps)
within-after n GiveUp w may = grind (arith, common_steps)
within-after n Replace w may = w
within-after n (Limit most) w may = grind (arith, common_steps)

-- allowed steps keep at most the maximum open, or none idle
pub within-replay : (n : Numbers) (steps : List PoolStep) → IsWithin n → AreAllowed n steps → IsWithin (replay n steps)
within-replay n [] w may = w
within-replay n (step ∷ steps) w may = within-replay (after n step) steps (within-after n step w may.0) may.1

-- the step after others is allowed where it comes
may-behind : (n : Numbers) (earlier later : List PoolStep) (step : PoolStep) → AreAllowed n (earlier ++ step ∷ later)
    → IsAllowed (replay n earlier) step
may-behind n [] later step may = may.0
may-behind n (s ∷ earlier) later step may = may-behind (after n s) earlier later step may.1

-- a step that opens a connection is a take that finds none idle
opens-take : (n : Numbers) (step : PoolStep) → IsAllowed n step → open_count n < open_count (after n step) → (step ≡ Take) × (n.idle ≡ 0)
opens-take n Take may more = (refl, grind (arith, common_steps))
opens-take n Put may more = absurd (grind (arith, common_steps))
opens-take n GiveUp may more = absurd (grind (arith, common_steps))
opens-take n Replace may more = absurd (omega (arith, more))
opens-take n (Limit most) may more = absurd (grind (arith, common_steps))

-- a step that opens a connection finds fewer than the maximum open
opens-below : (n : Numbers) (step : PoolStep) → IsAllowed n step → open_count n < open_count (after n step) → open_count n < n.maximum
opens-below n Take may more = grind (arith, common_steps)
opens-below n Put may more = absurd (grind (arith, common_steps))
opens-below n GiveUp may more = absurd (grind (arith, common_steps))
opens-below n Replace may more = absurd (omega (arith, more))
opens-below n (Limit most) may more = absurd (grind (arith, common_steps))

-- the same in a history
opens-after : (n : Numbers) (earlier : List PoolStep) (step : PoolStep)
    → open_count (replay n earlier) < open_count (replay n (earlier ++ step ∷ []))
    → open_count (replay n earlier) < open_count (after (replay n earlier) step)
opens-after n earlier step more = let P : Numbers → Type 0 = λ m. open_count (replay n earlier) < open_count m in
    subst P (replay-append n earlier (step ∷ [])) more

-- one of allowed steps that opens a connection is a take that finds none idle
pub opened-by_take : (n : Numbers) (earlier later : List PoolStep) (step : PoolStep) → AreAllowed n (earlier ++ step ∷ later)
    → open_count (replay n earlier) < open_count (replay n (earlier ++ step ∷ [])) → (step ≡ Take) × ((replay n earlier).idle ≡ 0)
opened-by_take n earlier later step may more = opens-take (replay n earlier) step (may-behind n earlier later step may)
    (opens-after n earlier step more)

-- one of allowed steps that opens a connection finds fewer than the maximum open
pub opened-below : (n : Numbers) (earlier later : List PoolStep) (step : PoolStep) → AreAllowed n (earlier ++ step ∷ later)
    → open_count (replay n earlier) < open_count (replay n (earlier ++ step ∷ []))
    → open_count (replay n earlier) < (replay n earlier).maximum
opened-below n earlier later step may more = opens-below (replay n earlier) step (may-behind n earlier later step may)
    (opens-after n earlier step more)

-- the same of a sound journal's steps
pub opened-sound : (j : Journaled) (earlier later : List PoolStep) (step : PoolStep) → IsSound j → j.steps ≡ earlier ++ step ∷ later
    → open_count (replay j.base earlier) < open_count (replay j.base (earlier ++ step ∷ []))
    → (step ≡ Take) × ((replay j.base earlier).idle ≡ 0) × (open_count (replay j.base earlier) < (replay j.base earlier).maximum)
opened-sound j earlier later step sound cut more =
    let may = subst (AreAllowed j.base) cut sound.allowed in
    let by_take = opened-by_take j.base earlier later step may more in
    (by_take.0, by_take.1, opened-below j.base earlier later step may more)

-- a connection that is replaced was leased, and at most the maximum were open
pub replaced-within : (n : Numbers) (earlier later : List PoolStep) → AreAllowed n (earlier ++ Replace ∷ later)
    → (1 ≤ (replay n earlier).leased) × (open_count (replay n earlier) ≤ (replay n earlier).maximum)
replaced-within n earlier later may = may-behind n earlier later Replace may

-- a take adds one to the leased number, and a return takes one off
leased-after : (n : Numbers) (step : PoolStep) → IsAllowed n step
    → (after n step).leased + cond (is_return step) 1 0 ≡ n.leased + cond (is_take step) 1 0
leased-after n Take may = grind (arith, common_steps)
leased-after n Put may = grind (arith, common_steps)
leased-after n GiveUp may = grind (arith, common_steps)
leased-after n Replace may = refl
leased-after n (Limit most) may = grind (arith, common_steps)

-- after allowed steps the leased are those before, with the takes and less the returns
pub leased-replay : (n : Numbers) (steps : List PoolStep) → AreAllowed n steps
    → (replay n steps).leased + count_by is_return steps ≡ n.leased + count_by is_take steps
leased-replay n [] may = refl
leased-replay n (step ∷ steps) may =
    let rest = leased-replay (after n step) steps may.1 in
    let returns = sum_by-cons (λ (s : PoolStep). cond (is_return s) 1 0) step steps in
    let takes = sum_by-cons (λ (s : PoolStep). cond (is_take s) 1 0) step steps in
    let here = leased-after n step may.0 in
    omega arith

-- the same of a sound journal's numbers
pub leased-sound : (j : Journaled) → IsSound j → j.numbers.leased + count_by is_return j.steps ≡ j.base.leased + count_by is_take j.steps
leased-sound j sound =
    let P : Numbers → Type 0 = λ n. n.leased + count_by is_return j.steps ≡ j.base.leased + count_by is_take j.steps in
    subst P sound.replayed (leased-replay j.base j.steps sound.allowed)

-- steps that set no maximum keep it
maximum-after : (n : Numbers) (step : PoolStep) → ◌≡◌ {A = ℕ} (cond (is_limit step) 1 0) 0 → (after n step).maximum ≡ n.maximum
maximum-after n Take none = grind (arith, common_steps)
maximum-after n Put none = grind (arith, common_steps)
maximum-after n GiveUp none = refl
maximum-after n Replace none = refl
maximum-after n (Limit most) none = absurd (omega arith)

-- steps of which none sets a maximum keep it
maximum-replay : (n : Numbers) (steps : List PoolStep) → count_by is_limit steps ≡ 0 → (replay n steps).maximum ≡ n.maximum
maximum-replay n [] none = refl
maximum-replay n (step ∷ steps) none =
    let limits = sum_by-cons (λ (s : PoolStep). cond (is_limit s) 1 0) step steps in
    let rest : count_by is_limit steps ≡ 0 = omega arith in
    let here : ◌≡◌ {A = ℕ} (cond (is_limit step) 1 0) 0 = omega arith in
    maximum-replay (after n step) steps rest ∙ maximum-after n step here

-- the maximum is that of the last step that set one
pub maximum-last : (n : Numbers) (earlier later : List PoolStep) (most : ℕ) → count_by is_limit later ≡ 0
    → (replay n (earlier ++ Limit most ∷ later)).maximum ≡ most
maximum-last n [] later most none = maximum-replay (after n (Limit most)) later none
maximum-last n (step ∷ earlier) later most none = maximum-last (after n step) earlier later most none
