-- There are as many pages as turns were made.
use Rattle.std.specs.Prelude.{◌≡◌}
use Rattle.span_bank.proofs.pages.Pages.make.Given as goal

abbrev pub invariant-loop-i : goal.invariant-loop-i
invariant-loop-i l = l.pages ≡ l._i
