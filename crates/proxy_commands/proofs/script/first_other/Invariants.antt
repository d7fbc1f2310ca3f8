-- A first line of another form in the rest is that of the text; if the rest is good, so is all.
use Rattle.std.proofs.Common.{ℕ, ◌+◌, ◌≤◌, List, length}
use Rattle.proxy_commands.specs.declared.script.Line.{Line as AnyLine}
use Rattle.proxy_commands.specs.Lines.{lines_of, said}
use Rattle.proxy_commands.specs.Script.{SaysLines, IsFirstOther}
use Rattle.proxy_commands.proofs.script.first_other.Given as goal

abbrev pub invariant-loop-rest : goal.invariant-loop-rest
invariant-loop-rest l = record {
  counted : l.number + length l.rest ≤ 1048577;
  other : (n : ℕ) → IsFirstOther l.number (lines_of l.rest) n → IsFirstOther l.from (lines_of l.text) n;
  good : (lines : List AnyLine) → SaysLines (said (lines_of l.rest)) lines → (all : List AnyLine) × SaysLines (said (lines_of l.text)) all;
}

abbrev pub decreases-loop-rest : goal.decreases-loop-rest
decreases-loop-rest l = length l.rest
