-- What is written so far, with the lines left, is the text before and all lines.
use Rattle.std.proofs.Common.{◌≡◌, ◌++◌, drop, map}
use Rattle.event_loop.specs.Overview.{seen, joined}
use Rattle.event_loop.proofs.overview.write_lines.Given as goal

abbrev pub invariant-loop-line : goal.invariant-loop-line
invariant-loop-line l = l.out.items ++ joined (map seen (drop l.line-index l.lines)) ≡ l.initial.out.items ++ joined (map seen l.lines)
