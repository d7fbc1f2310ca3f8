-- The bytes passed, and the length of the word with which the rest begins, make the word's length.
use Rattle.std.proofs.Common.{◌≡◌, ◌+◌, drop}
use Rattle.shard_report.specs.Heads.{word_length}
use Rattle.shard_report.proofs.heads.word_length.Given as goal

abbrev pub invariant-loop-byte : goal.invariant-loop-byte
invariant-loop-byte l = (l.at ≡ l.byte-index) × (word_length l.text ≡ l.at + word_length (drop l.byte-index l.text))
