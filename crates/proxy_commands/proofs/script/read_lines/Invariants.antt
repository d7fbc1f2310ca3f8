-- The lines left are good ones, and the lines read so far with those left after them are what the text says.
use Rattle.std.proofs.Common.{List, ◌++◌, length}
use Rattle.proxy_commands.specs.declared.script.Line.{Line as AnyLine}
use Rattle.proxy_commands.specs.Lines.{lines_of, said}
use Rattle.proxy_commands.specs.Script.{SaysLines}
use Rattle.proxy_commands.proofs.script.read_lines.Given as goal

abbrev pub invariant-loop-rest : goal.invariant-loop-rest
invariant-loop-rest l = record {
  left : (lines : List AnyLine) × SaysLines (said (lines_of l.rest)) lines;
  read : (more : List AnyLine) → SaysLines (said (lines_of l.rest)) more → SaysLines (said (lines_of l.text)) (l.lines.items ++ more);
}

abbrev pub decreases-loop-rest : goal.decreases-loop-rest
decreases-loop-rest l = length l.rest
