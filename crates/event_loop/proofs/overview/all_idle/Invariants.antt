-- The idle users so far, counted on through the sheets left, are those of all sheets.
use Rattle.std.proofs.Common.{◌≡◌, drop}
use Rattle.event_loop.specs.Overview.{idle_from}
use Rattle.event_loop.proofs.overview.all_idle.Given as goal

abbrev pub invariant-loop-sheet : goal.invariant-loop-sheet
invariant-loop-sheet l = idle_from l.idle (drop l.sheet-index l.sheets) ≡ idle_from 0 l.sheets
