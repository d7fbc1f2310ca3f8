-- The lines so far, with those of the sheet still to come, are those before and all of the sheet.
use Rattle.std.proofs.Common.{◌≡◌, ◌++◌, drop, map}
use Rattle.event_loop.specs.Overview.{seen, shown_at, lines_of}
use Rattle.event_loop.proofs.overview.add_lines.Given as goal

abbrev pub invariant-loop-line : goal.invariant-loop-line
invariant-loop-line l =
    map seen l.lines.items ++ map (shown_at l.sheet.text.items) (drop l.line-index l.sheet.lines.items)
    ≡ map seen l.initial.lines.items ++ lines_of l.sheet
