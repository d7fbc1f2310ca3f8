-- The pages of both chains stay as many as they were together.
use Rattle.std.specs.Prelude.{◌≡◌, ◌+◌}
use Rattle.span_bank.proofs.pages.Pages.join.Given as goal

abbrev pub invariant-loop-page : goal.invariant-loop-page
invariant-loop-page l = l.self + l.other ≡ l.initial.self + l.initial.other

abbrev pub decreases-loop-page : goal.decreases-loop-page
decreases-loop-page l = l.other
