-- Before and after each round nothing is held, on no page, of a claim of one piece.
use Rattle.std.proofs.Common.{◌≡◌}
use Rattle.layer_bench.specs.declared.budget.TheConstants.{PIECE}
use Rattle.layer_bench.proofs.budget.time_pairs.Given as goal

-- each round ends with nothing held
abbrev pub invariant-loop : goal.invariant-loop
invariant-loop g l = l.stake ≡ record { held = 0; claim = PIECE; pages = 0 }
