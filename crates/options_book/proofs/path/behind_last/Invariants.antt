-- What is left is a prefix of the text, and no byte of this value stands after it; at each turn it is shorter.
use Rattle.std.proofs.Common.{◌≡◌, ◌≢◌, ℕ, ◌<◌, ◌≤◌, length, take, get_or}
use Rattle.options_book.proofs.path.behind_last.Given as goal

abbrev pub invariant-loop-front : goal.invariant-loop-front
invariant-loop-front l = record {
  within : length l.front ≤ length l.text;
  same : l.front ≡ take (length l.front) l.text;
  none : (k : ℕ) → length l.front ≤ k → k < length l.text → get_or l.text k 0 ≢ l.byte;
}

abbrev pub decreases-loop-front : goal.decreases-loop-front
decreases-loop-front l = length l.front
