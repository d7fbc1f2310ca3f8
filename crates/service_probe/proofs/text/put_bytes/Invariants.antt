-- The text so far, and the escaped text of the bytes that are left, make the whole text.
use Rattle.std.proofs.Common.{◌≡◌, ◌++◌, drop}
use Rattle.service_probe.specs.Text.{escaped_text}
use Rattle.service_probe.proofs.text.put_bytes.Given as goal

abbrev pub invariant-loop-byte : goal.invariant-loop-byte
invariant-loop-byte l = l.out.items ++ escaped_text (drop l.byte-index l.bytes) ≡ l.initial.out.items ++ escaped_text l.bytes
