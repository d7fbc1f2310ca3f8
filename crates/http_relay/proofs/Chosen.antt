-- The chosen message, over the events of giving.
use Rattle.std.proofs.Common.{◌≡◌, ℕ, ◌+◌, ◌≤◌, inl, inr, Bool, true, false, ◌||◌, refl, arith}
use Rattle.std.proofs.lemmas.Bool.Decides.{nat_tests}
use Rattle.trace_core.specs.declared.history.Seen.{Seen}
use Rattle.trace_core.specs.declared.history.Event.TheVariants.{Usr, Done}
use Rattle.trace_core.specs.History.{is_plain}
use Rattle.trace_core.specs.Legal.{Allows, ChoosesOriginal}
use Rattle.trace_core.specs.Faults.{chooses_original}
use Rattle.trace_core.specs.View.{after}
use Rattle.trace_core.proofs.Sound.{Sound, sound-after}
use Rattle.adapt_sides.specs.Tapes.{chosen_delivered, chosen_received, chosen_over}

-- fewer bytes may follow too
pub fewer : (x : Seen) (m n : ℕ) → 1 ≤ m → m ≤ n → Allows x (Usr n) → Allows x (Usr m)
fewer x m n some l (inl a) = inl (a.0, (some, omega (arith, a.1.1)), omega (arith, a.2))
fewer x m n some l (inr a) = inr (a.0, (some, omega (arith, a.1.1)), omega (arith, a.2))

-- an Usr has a byte
pub some_of : (x : Seen) (n : ℕ) → Allows x (Usr n) → 1 ≤ n
some_of x n (inl a) = a.1.0
some_of x n (inr a) = a.1.0

-- what is seen once so many bytes of the chosen message went out
pub record Moved (x y : Seen) (n : ℕ) : Type 0 where
  pub out : chosen_delivered y ≡ chosen_delivered x + n
  pub came : chosen_received y ≡ chosen_received x
  pub over : chosen_over y ≡ chosen_over x
  pub still : y.closed ≡ x.closed
  pub sound : Sound y

-- an Usr moves what went out of the chosen message by its bytes, and nothing else of it
pub usr_moves : (x : Seen) (n : ℕ) → Sound x → Allows x (Usr n) → Moved x (after x (Usr n)) n
usr_moves x n s a = record {
  out = grind (arith, nat_tests);
  came = grind (arith, nat_tests);
  over = grind (arith, nat_tests);
  still = refl;
  sound = sound-after x (Usr n) s a;
}

-- an Usr gives no more of the chosen message than has come
pub usr_room : (x : Seen) (n : ℕ) → Sound x → Allows x (Usr n) → chosen_delivered x + n ≤ chosen_received x
usr_room x n s a = grind (arith, nat_tests)

-- where the plan is plain, or a 204 came, the original is the chosen message
original_by : (x : Seen) (b c : Bool) → is_plain x.plan.kind ≡ b → x.no_mod ≡ c → (b || c) ≡ true → ChoosesOriginal x
original_by x true c p m h = inl p
original_by x false true p m h = inr m
original_by x false false p m h = cc

-- whichever message is chosen, Done may follow where it has ended and is all out
done_by : (x : Seen) (b : Bool) → chooses_original x ≡ b → Sound x → chosen_over x ≡ true → chosen_delivered x ≡ chosen_received x
    → Allows x Done
done_by x true e s o a = inl (original_by x (is_plain x.plan.kind) x.no_mod refl refl e, grind (arith, nat_tests), grind (arith, nat_tests))
done_by x false e s o a = inr (s.over (grind (arith, nat_tests)), grind (arith, nat_tests), grind (arith, nat_tests))

-- Done may follow where the chosen message has ended and is all out
pub done_allowed : (x : Seen) → Sound x → chosen_over x ≡ true → chosen_delivered x ≡ chosen_received x → Allows x Done
done_allowed x s o a = done_by x (chooses_original x) refl s o a

-- and only there
pub done_means : (x : Seen) → Sound x → Allows x Done → (chosen_over x ≡ true) × (chosen_delivered x ≡ chosen_received x)
done_means x s a = (grind (arith, nat_tests), grind (arith, nat_tests))

-- Done changes nothing of the message
pub done_moves : (x : Seen) → (chosen_delivered (after x Done) ≡ chosen_delivered x) × (chosen_received (after x Done) ≡ chosen_received x)
    × (chosen_over (after x Done) ≡ chosen_over x)
done_moves x = (grind (arith, nat_tests), grind (arith, nat_tests), grind (arith, nat_tests))
