-- Only comments were passed: the rest says what the text says, and its first bad line is the text's.
use Rattle.std.proofs.Common.{◌≡◌, ℕ, ◌+◌, ◌≤◌, length}
use Rattle.proxy_commands.specs.Lines.{lines_of, said}
use Rattle.proxy_commands.specs.Script.{IsBadFrom}
use Rattle.proxy_commands.proofs.script.past_comments.Given as goal

abbrev pub invariant-loop-rest : goal.invariant-loop-rest
invariant-loop-rest l = record {
  counted : l.number + length l.rest ≤ 1048577;
  said : said (lines_of l.text) ≡ said (lines_of l.rest);
  bad : (n : ℕ) → IsBadFrom l.number (lines_of l.rest) n → IsBadFrom 1 (lines_of l.text) n;
}

abbrev pub decreases-loop-rest : goal.decreases-loop-rest
decreases-loop-rest l = length l.rest
