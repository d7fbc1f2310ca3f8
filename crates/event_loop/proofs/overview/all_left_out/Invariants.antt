-- The lines left out so far, counted on through the sheets left, are those of all sheets.
use Rattle.std.proofs.Common.{◌≡◌, drop}
use Rattle.event_loop.specs.Overview.{left_out_from}
use Rattle.event_loop.proofs.overview.all_left_out.Given as goal

abbrev pub invariant-loop-sheet : goal.invariant-loop-sheet
invariant-loop-sheet l = left_out_from l.left_out (drop l.sheet-index l.sheets) ≡ left_out_from 0 l.sheets
