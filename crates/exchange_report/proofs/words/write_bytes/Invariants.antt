-- What is written and the bytes that are left, escaped, come to what was there and all bytes, escaped.
use Rattle.std.proofs.Common.{◌≡◌, ◌++◌, drop}
use Rattle.exchange_report.specs.Words.{escaped_text}
use Rattle.exchange_report.proofs.words.write_bytes.Given as goal

abbrev pub invariant-loop-byte : goal.invariant-loop-byte
invariant-loop-byte l = l.out.items ++ escaped_text (drop l.byte-index l.bytes) ≡ l.initial.out.items ++ escaped_text l.bytes
