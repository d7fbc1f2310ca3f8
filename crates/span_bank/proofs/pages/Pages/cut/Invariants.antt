-- As many pages are cut off as turns were made, and with those left they are the pages of the beginning.
use Rattle.std.specs.Prelude.{◌≡◌, ◌+◌}
use Rattle.span_bank.proofs.pages.Pages.cut.Given as goal

abbrev pub invariant-loop-i : goal.invariant-loop-i
invariant-loop-i l = (l.cut ≡ l._i) × (l.self + l._i ≡ l.initial.self)
