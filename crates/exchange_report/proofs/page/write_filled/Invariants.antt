-- What is written and the rest of the page, filled, come to what was there and the whole page, filled.
use Rattle.std.proofs.Common.{◌≡◌, ◌++◌, length}
use Rattle.exchange_report.specs.Pages.{filled}
use Rattle.exchange_report.proofs.page.write_filled.Given as goal

abbrev pub invariant-loop-rest : goal.invariant-loop-rest
invariant-loop-rest l = l.out.items ++ filled l.word l.number l.rest ≡ l.initial.out.items ++ filled l.word l.number l.page

abbrev pub decreases-loop-rest : goal.decreases-loop-rest
decreases-loop-rest l = length l.rest
