-- Any bank that counts a reservation takes the steps by which its bytes change and it falls.
use Rattle.std.proofs.Common.{◌≡◌, ℕ, ◌+◌, ◌-◌, ◌≤◌, Bool, true, false, Some, None, arith, refl}
use Rattle.std.specs.Prelude.{◌==◌, nat_lt, cond}
use Rattle.std.proofs.lemmas.Bool.Decides.{nat_tests}
use Rattle.std.proofs.lemmas.Bool.{cond_both, ltb-true}
use Rattle.span_bank.specs.declared.step.BankStep.TheVariants as bank
use Rattle.adapt_hold.specs.Holding.{Holding}
use Rattle.world_ties.specs.BankTie.{held_step, step_if}
use Rattle.world_ties.specs.Alone.{AnyBankTakes, BankTakes}

-- more bytes within what a counted reservation has free are within what the bank has free
grow_sums : (held claim more b_held b_claimed : ℕ) → 1 ≤ more → held + more ≤ claim → claim - held ≤ b_claimed - b_held
    → b_held + more ≤ b_claimed
grow_sums held claim more b_held b_claimed one room free = omega arith

-- a bank that counts a reservation takes each change of its bytes within the claim
takes_held : (old new claim : ℕ) → old ≤ claim → new ≤ claim → AnyBankTakes old claim (held_step old new)
takes_held old new claim o n =
    cond_both (nat_lt old new) (Some (bank.Grow (new - old))) (cond (nat_lt new old) (Some (bank.Shrink (old - new))) None)
    (AnyBankTakes old claim)
    (λ more v pages c.
    let less = ltb-true old new more in
    let free = c.free in
    ((omega arith, grow_sums old claim (new - old) v.journal.numbers.held v.journal.numbers.claimed (omega arith) (omega arith) free), tt))
    (λ no. cond_both (nat_lt new old) (Some (bank.Shrink (old - new))) None (AnyBankTakes old claim)
    (λ fewer v pages c.
    let less = ltb-true new old fewer in
    let held = c.held in
    ((omega arith, omega arith), tt))
    (λ as_many. tt))

-- a claim that falls to no less than it holds leaves what the bank holds within what is claimed
claim_sums : (held old new b_held b_claimed : ℕ) → held ≤ new → new ≤ old → (old == new) ≡ false → old - held ≤ b_claimed - b_held
    → b_held + old ≤ b_claimed + new
claim_sums held old new b_held b_claimed w l d free = grind (arith, nat_tests)

-- a bank that counts a reservation takes its fall to no less than it holds
takes_claim : (held old new : ℕ) → held ≤ new → new ≤ old → AnyBankTakes held old (step_if (bank.Reclaim old new))
takes_claim held old new w l = by_case (old == new) refl
  where
    by_case : (same : Bool) → (old == new) ≡ same → AnyBankTakes held old (cond (cond same false true) (Some (bank.Reclaim old new)) None)
    by_case true e = tt
    by_case false e = λ v pages c.
        let free = c.free in
        ((l, claim_sums held old new v.journal.numbers.held v.journal.numbers.claimed w l e free), tt)

-- a bank takes the steps between two holdings within their claims, where the claim doesn't rise
pub bank_takes : (old new : Holding) → old.held ≤ old.claim → new.held ≤ new.claim → new.claim ≤ old.claim → BankTakes old new
bank_takes old new o n c = record {
  held = takes_held old.held new.held old.claim o (omega arith);
  claim = takes_claim new.held old.claim new.claim n c;
}
