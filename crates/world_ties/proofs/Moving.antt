-- How an event of a message changes the number of bytes held.
use Rattle.std.proofs.Common.{◌≡◌, ℕ, ◌+◌, ◌-◌, ◌≤◌, zero, suc, Bool, false, List, ◌∷◌, Option, Some, None, arith, refl, sym, subst, ap}
use Rattle.std.proofs.Common.{◌∙◌}
use Rattle.std.specs.Prelude.{nat_lt, cond}
use Rattle.std.proofs.lemmas.Bool.Decides.{nat_tests}
use Rattle.std.proofs.lemmas.Bool.{cond_both}
use Rattle.trace_core.specs.declared.history.Cause.{Cause}
use Rattle.trace_core.specs.declared.history.Payload.{Payload}
use Rattle.trace_core.specs.declared.history.Event.{Event}
use Rattle.trace_core.specs.declared.history.Event.TheVariants.{In, End, Svc, Stop, Heard, Continue, NoMod, Mod, Ad, AdEnd, Usr, Done, Fail}
use Rattle.trace_core.specs.declared.history.Event.TheVariants.{Retry}
use Rattle.trace_core.specs.declared.history.Seen.{Seen}
use Rattle.trace_core.specs.Held.{held_places, keeps_original}
use Rattle.trace_core.specs.Legal.{Allows}
use Rattle.trace_core.specs.View.{after}
use Rattle.trace_core.proofs.Sound.{Sound, sound}
use Rattle.trace_core.proofs.Answered.{may_follow}
use Rattle.world_core.specs.declared.event.WorldEvent.{WorldEvent}
use Rattle.world_core.specs.declared.event.WorldEvent.TheVariants.{Of}
use Rattle.world_core.specs.WorldHistory.{Setting, Opened, open_at, with_event}
use Rattle.world_core.specs.WorldFaults.{IsLegalWorld, shown, opened_event_fault, found_at}
use Rattle.world_core.specs.WorldSound.{held_at}
use Rattle.world_core.proofs.Standing.{sane_at, rows_of}
use Rattle.span_bank.specs.declared.step.BankStep.TheVariants as bank
use Rattle.world_ties.specs.BankTie.{held_step, bank_step, brings, IsQuiet}

-- bytes that come and are kept are held
adds-in : (x : Seen) (n : ℕ) → Sound x → x.closed ≡ false → Allows x (In n)
    → held_places (after x (In n)) ≡ held_places x + cond (keeps_original x) n 0
adds-in x n s c a = grind (arith, nat_tests)

-- all bytes of the adapted body that come are held
adds-ad : (x : Seen) (n : ℕ) → Sound x → x.closed ≡ false → Allows x (Ad n) → held_places (after x (Ad n)) ≡ held_places x + n
adds-ad x n s c a = grind (arith, nat_tests)

-- and those that are dropped aren't
adds-none : (x : Seen) (n : ℕ) → Sound x → x.closed ≡ false → Allows x (In n) → keeps_original x ≡ false
    → held_places (after x (In n)) ≡ held_places x
adds-none x n s c a d = let e = subst (λ (keeps : Bool). held_places (after x (In n)) ≡ held_places x + cond keeps n 0) d
    (adds-in x n s c a) in omega arith

-- these leave as many

-- the end of the source's body leaves as many places held
stays-end : (x : Seen) → Sound x → x.closed ≡ false → Allows x End → held_places (after x End) ≡ held_places x
stays-end x s c a = grind (arith, nat_tests)

-- a last chunk to the service leaves as many places held
stays-stop : (x : Seen) → Sound x → x.closed ≡ false → Allows x Stop → held_places (after x Stop) ≡ held_places x
stays-stop x s c a = grind (arith, nat_tests)

-- the first byte of a reply leaves as many places held
stays-heard : (x : Seen) → Sound x → x.closed ≡ false → Allows x Heard → held_places (after x Heard) ≡ held_places x
stays-heard x s c a = grind (arith, nat_tests)

-- a 204 leaves as many places held
stays-no_mod : (x : Seen) → Sound x → x.closed ≡ false → Allows x NoMod → held_places (after x NoMod) ≡ held_places x
stays-no_mod x s c a = grind (arith, nat_tests)

-- a transaction that is done holds as many places as just before
stays-done : (x : Seen) → Sound x → x.closed ≡ false → Allows x Done → held_places (after x Done) ≡ held_places x
stays-done x s c a = grind (arith, nat_tests)

-- a retry leaves as many places held
stays-retry : (x : Seen) → Sound x → x.closed ≡ false → Allows x Retry → held_places (after x Retry) ≡ held_places x
stays-retry x s c a = grind (arith, nat_tests)

-- any allowed event that is quiet leaves as many places held
stays : (x : Seen) (event : Event) → Sound x → x.closed ≡ false → Allows x event → IsQuiet event
    → held_places (after x event) ≡ held_places x
stays x End s c a q = stays-end x s c a
stays x Stop s c a q = stays-stop x s c a
stays x Heard s c a q = stays-heard x s c a
stays x NoMod s c a q = stays-no_mod x s c a
stays x Done s c a q = stays-done x s c a
stays x Retry s c a q = stays-retry x s c a
stays x (In n) s c a q = absurd q
stays x (Svc n) s c a q = absurd q
stays x Continue s c a q = absurd q
stays x (Mod payload) s c a q = absurd q
stays x (Ad n) s c a q = absurd q
stays x AdEnd s c a q = absurd q
stays x (Usr n) s c a q = absurd q
stays x (Fail cause) s c a q = absurd q

-- and these let some go, or none

-- bytes to the service leave at most as many places held
falls-svc : (x : Seen) (n : ℕ) → Sound x → x.closed ≡ false → Allows x (Svc n) → held_places (after x (Svc n)) ≤ held_places x
falls-svc x n s c a = grind (arith, nat_tests)

-- a 100 leaves at most as many places held
falls-continue : (x : Seen) → Sound x → x.closed ≡ false → Allows x Continue → held_places (after x Continue) ≤ held_places x
falls-continue x s c a = grind (arith, nat_tests)

-- a 200 leaves at most as many places held
falls-mod : (x : Seen) (payload : Payload) → Sound x → x.closed ≡ false → Allows x (Mod payload)
    → held_places (after x (Mod payload)) ≤ held_places x
falls-mod x payload s c a = grind (arith, nat_tests)

-- the end of the adapted body leaves at most as many places held
falls-ad_end : (x : Seen) → Sound x → x.closed ≡ false → Allows x AdEnd → held_places (after x AdEnd) ≤ held_places x
falls-ad_end x s c a = grind (arith, nat_tests)

-- bytes to the next hop leave at most as many places held
falls-usr : (x : Seen) (n : ℕ) → Sound x → x.closed ≡ false → Allows x (Usr n) → held_places (after x (Usr n)) ≤ held_places x
falls-usr x n s c a = grind (arith, nat_tests)

-- a failure leaves at most as many places held
falls-fail : (x : Seen) (cause : Cause) → Sound x → x.closed ≡ false → Allows x (Fail cause)
    → held_places (after x (Fail cause)) ≤ held_places x
falls-fail x cause s c a = grind (arith, nat_tests)

-- so at most what an event brings is held more, and all of it is where it brings any
record Moves (old new came : ℕ) : Type 0 where
  at_most : new ≤ old + came
  brought : 1 ≤ came → new ≡ old + came

-- where as much more is held as came, at most what came is held more, and all of it where any came
moves_by : (old new came : ℕ) → new ≡ old + came → Moves old new came
moves_by old new came e = record { at_most = omega arith; brought = λ some. e }

-- where at most as much is held as before, what is held moves as if nothing came
moves_none : (old new : ℕ) → new ≤ old → Moves old new 0
moves_none old new l = record { at_most = omega arith; brought = λ some. absurd (omega arith) }

-- at most what an allowed event brings is held more, and all of it where it brings any
moves : (o : Opened) (event : Event) → Sound (shown o) → (shown o).closed ≡ false → Allows (shown o) event
    → Moves (held_places (shown o)) (held_places (after (shown o) event)) (brings o event)
moves o (In n) s c a = moves_by _ _ (brings o (In n)) (adds-in (shown o) n s c a)
moves o (Ad n) s c a = moves_by _ _ n (adds-ad (shown o) n s c a)
moves o End s c a = moves_by _ _ 0 (let e = stays-end (shown o) s c a in omega arith)
moves o Stop s c a = moves_by _ _ 0 (let e = stays-stop (shown o) s c a in omega arith)
moves o Heard s c a = moves_by _ _ 0 (let e = stays-heard (shown o) s c a in omega arith)
moves o NoMod s c a = moves_by _ _ 0 (let e = stays-no_mod (shown o) s c a in omega arith)
moves o Done s c a = moves_by _ _ 0 (let e = stays-done (shown o) s c a in omega arith)
moves o Retry s c a = moves_by _ _ 0 (let e = stays-retry (shown o) s c a in omega arith)
moves o (Svc n) s c a = moves_none _ _ (falls-svc (shown o) n s c a)
moves o Continue s c a = moves_none _ _ (falls-continue (shown o) s c a)
moves o (Mod payload) s c a = moves_none _ _ (falls-mod (shown o) payload s c a)
moves o AdEnd s c a = moves_none _ _ (falls-ad_end (shown o) s c a)
moves o (Usr n) s c a = moves_none _ _ (falls-usr (shown o) n s c a)
moves o (Fail cause) s c a = moves_none _ _ (falls-fail (shown o) cause s c a)

-- Of an event that the world takes.

-- the message allows it
record Taken (o : Opened) (event : Event) : Type 0 where
  sane : Sound (shown o)
  unclosed : (shown o).closed ≡ false
  allowed : Allows (shown o) event

-- an event that the world takes is one that its open transaction's message allows
taken : (w : Setting) (before : List WorldEvent) (t : ℕ) (event : Event) (o : Opened) → IsLegalWorld w (Of t event ∷ before)
    → open_at t before ≡ Some o → Taken o event
taken w before t event o l e =
    let s = sane_at w t before o l.1 e in
    let none = subst (λ (x : Option Opened). opened_event_fault x (found_at w t before) event ≡ None) e l.0 in
    let may = may_follow o.plan o.part event s.legal (rows_of o (found_at w t before) event none).0 in
    record { sane = sound o.plan o.part s.legal; unclosed = may.0; allowed = may.1 }

-- the step of a message's event is that from what its transaction holds to what it holds then
step_of : (before : List WorldEvent) (t : ℕ) (event : Event) (o : Opened) → open_at t before ≡ Some o
    → bank_step before (Of t event) ≡ held_step (held_places (shown o)) (held_places (after (shown o) event))
step_of before t event o e = ap (λ (x : Option Opened). held_step (held_at x) (held_at (with_event event x))) e

-- a rise of what is held by at least one is a Grow by as many
grow_by : (old new n : ℕ) → 1 ≤ n → new ≡ old + n → held_step old new ≡ Some (bank.Grow n)
grow_by old new n one e =
    cond_both (nat_lt old new) (Some (bank.Grow (new - old))) (cond (nat_lt new old) (Some (bank.Shrink (old - new))) None)
    (λ step. step ≡ Some (bank.Grow n))
    (λ more. ap (λ (k : ℕ). Some (bank.Grow k)) (omega arith)) (λ no. absurd (grind (arith, nat_tests)))

-- an event that is taken and brings bytes that are kept is a Grow by as many
pub grows : (w : Setting) (before : List WorldEvent) (t n : ℕ) (event : Event) (o : Opened) → IsLegalWorld w (Of t event ∷ before)
    → open_at t before ≡ Some o → brings o event ≡ n → 1 ≤ n
    → bank_step before (Of t event) ≡ Some (bank.Grow n)
grows w before t n event o l e b one =
    let is = taken w before t event o l e in
    let came = (moves o event is.sane is.unclosed is.allowed).brought (omega arith) in
    step_of before t event o e ∙ grow_by (held_places (shown o)) (held_places (after (shown o) event)) n one (omega arith)

-- where at most as much is held as before, the step is no Grow
no_grow : (old new n : ℕ) → new ≤ old → held_step old new ≡ Some (bank.Grow n) → ⊥
no_grow old new n l = cond_both (nat_lt old new) (Some (bank.Grow (new - old)))
    (cond (nat_lt new old) (Some (bank.Shrink (old - new))) None) (λ step. step ≡ Some (bank.Grow n) → ⊥)
    (λ more e. absurd (grind (arith, nat_tests)))
    (λ no. cond_both (nat_lt new old) (Some (bank.Shrink (old - new))) None (λ step. step ≡ Some (bank.Grow n) → ⊥) (λ less e. absurd cc)
    (λ as_many e. absurd cc))

-- two Grow steps that are one are by the same number
same_grow : (n k : ℕ) → Some (bank.Grow n) ≡ Some (bank.Grow k) → n ≡ k
same_grow n k e = cc

-- where an event that is taken is a Grow, it brings just as many bytes that are kept
pub only_brought : (w : Setting) (before : List WorldEvent) (t n : ℕ) (event : Event) (o : Opened) → IsLegalWorld w (Of t event ∷ before)
    → open_at t before ≡ Some o
    → bank_step before (Of t event) ≡ Some (bank.Grow n) → brings o event ≡ n
only_brought w before t n event o l e g = by_number (brings o event) refl
  where
    by_number : (came : ℕ) → brings o event ≡ came → brings o event ≡ n
    by_number zero b =
        let is = taken w before t event o l e in
        let most = (moves o event is.sane is.unclosed is.allowed).at_most in
        absurd (no_grow (held_places (shown o)) (held_places (after (shown o) event)) n (omega arith)
        (sym (step_of before t event o e) ∙ g))
    by_number (suc came) b = b ∙ same_grow (suc came) n (sym (grows w before t (suc came) event o l e b (omega arith)) ∙ g)

-- where as much is held as before, there is no step
no_step : (n m : ℕ) → m ≡ n → held_step n m ≡ None
no_step n m e =
    cond_both (nat_lt n m) (Some (bank.Grow (m - n))) (cond (nat_lt m n) (Some (bank.Shrink (n - m))) None) (λ step. step ≡ None)
    (λ more. absurd (grind (arith, nat_tests)))
    (λ no. cond_both (nat_lt m n) (Some (bank.Shrink (n - m))) None (λ step. step ≡ None) (λ less. absurd (grind (arith, nat_tests)))
    (λ as_many. refl))

-- a quiet event that is taken is no step of the bank
pub quiet : (w : Setting) (before : List WorldEvent) (t : ℕ) (event : Event) → IsLegalWorld w (Of t event ∷ before) → IsQuiet event
    → bank_step before (Of t event) ≡ None
quiet w before t event l q = by_case (open_at t before) refl
  where
    by_case : (x : Option Opened) → open_at t before ≡ x → bank_step before (Of t event) ≡ None
    by_case None e = absurd (let none = subst (λ (y : Option Opened). opened_event_fault y (found_at w t before) event ≡ None) e l.0 in cc)
    by_case (Some o) e =
        let is = taken w before t event o l e in
        step_of before t event o e ∙ no_step (held_places (shown o)) (held_places (after (shown o) event))
        (stays (shown o) event is.sane is.unclosed is.allowed q)

-- bytes of the source that come and are dropped are no step of the bank
pub dropped : (w : Setting) (before : List WorldEvent) (t n : ℕ) (o : Opened) → IsLegalWorld w (Of t (In n) ∷ before)
    → open_at t before ≡ Some o → keeps_original (shown o) ≡ false
    → bank_step before (Of t (In n)) ≡ None
dropped w before t n o l e d =
    let is = taken w before t (In n) o l e in
    step_of before t (In n) o e ∙ no_step (held_places (shown o)) (held_places (after (shown o) (In n)))
    (adds-none (shown o) n is.sane is.unclosed is.allowed d)
