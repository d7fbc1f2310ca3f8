-- None of the names before this one is the name.
use Rattle.std.proofs.Common.{◌≡◌, map, string_bytes, drop}
use Rattle.adapt_bytes.specs.Text.{is_among}
use Rattle.icap_client.proofs.carried.is_among.Given as goal

abbrev pub invariant-loop-other : goal.invariant-loop-other
invariant-loop-other l = is_among (map string_bytes l.names) l.name ≡ is_among (map string_bytes (drop l.other-index l.names)) l.name
