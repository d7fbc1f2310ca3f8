-- The bytes before this one are written as they are.
use Rattle.std.proofs.Common.{◌≡◌, ◌++◌, take, drop}
use Rattle.exchange_report.specs.Words.{escaped_text}
use Rattle.exchange_report.proofs.words.are_plain.Given as goal

abbrev pub invariant-loop-byte : goal.invariant-loop-byte
invariant-loop-byte l = escaped_text l.bytes ≡ take l.byte-index l.bytes ++ escaped_text (drop l.byte-index l.bytes)
