-- Whether a line ends in the bytes is told by those that are left.
use Rattle.std.proofs.Common.{◌≡◌, drop}
use Rattle.adapt_bytes.specs.Text.{has_line}
use Rattle.icap_client.proofs.kept.has_line.Given as goal

abbrev pub invariant-loop-byte : goal.invariant-loop-byte
invariant-loop-byte l = has_line l.bytes ≡ has_line (drop l.byte-index l.bytes)
