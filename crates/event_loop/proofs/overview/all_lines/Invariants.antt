-- The lines so far, with those of the sheets left, are the lines of all threads.
use Rattle.std.proofs.Common.{◌≡◌, ◌++◌, drop, map}
use Rattle.event_loop.specs.Overview.{seen, all_lines}
use Rattle.event_loop.proofs.overview.all_lines.Given as goal

abbrev pub invariant-loop-sheet : goal.invariant-loop-sheet
invariant-loop-sheet l = map seen l.lines.items ++ all_lines (drop l.sheet-index l.sheets) ≡ all_lines l.sheets
