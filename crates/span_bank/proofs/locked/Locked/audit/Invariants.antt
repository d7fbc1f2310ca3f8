-- The parts and amounts merged so far, with those of the stakes left, are those of the beginning.
use Rattle.std.specs.Prelude.{◌≡◌, ◌+◌, vec_len}
use Rattle.span_bank.specs.Stakes.{held_sum, claim_sum, page_sum}
use Rattle.span_bank.proofs.locked.Locked.audit.Given as goal

-- the parts and amounts of the stakes still to merge, with those merged, are those of the beginning
abbrev pub invariant-loop-stake : goal.invariant-loop-stake
invariant-loop-stake g l =
    (l.rest.parts + vec_len l.stakes ≡ l.initial.rest.parts + vec_len l.initial.stakes)
    × (l.rest.amounts.held + held_sum l.stakes.items ≡ held_sum l.initial.stakes.items)
    × (l.rest.amounts.free + l.rest.amounts.held + claim_sum l.stakes.items ≡ claim_sum l.initial.stakes.items)
    × (l.rest.amounts.pages + page_sum l.stakes.items ≡ page_sum l.initial.stakes.items)

abbrev pub decreases-loop-stake : goal.decreases-loop-stake
decreases-loop-stake g l = vec_len l.stakes
