-- The text so far, and what is shown of the value's bytes that are left, make the whole text.
use Rattle.std.proofs.Common.{◌≡◌, ◌++◌, drop}
use Rattle.service_probe.specs.Text.{shown_text}
use Rattle.service_probe.proofs.text.put_value.Given as goal

abbrev pub invariant-loop-byte : goal.invariant-loop-byte
invariant-loop-byte l = l.out.items ++ shown_text (drop l.byte-index l.value) ≡ l.initial.out.items ++ shown_text l.value
