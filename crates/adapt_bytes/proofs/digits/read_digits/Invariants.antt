-- The bytes read so far are digits of the base, and the value is the one that they write.
use Rattle.std.proofs.Common.{◌≡◌, take}
use Rattle.std.specs.Str.Parse.{AllDigits, digits_value}
use Rattle.adapt_bytes.proofs.digits.read_digits.Given as goal

abbrev pub invariant-loop-byte : goal.invariant-loop-byte
invariant-loop-byte l = record {
  digits : AllDigits l.base (take l.byte-index l.bytes);
  value : l.value ≡ digits_value l.base (take l.byte-index l.bytes);
}
