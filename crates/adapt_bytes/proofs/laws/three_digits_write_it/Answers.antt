-- A number below 1,000 is read back in decimal from its three digits.
use Rattle.adapt_bytes.proofs.ThreeDigits.{Writes-three_digits}
use Rattle.adapt_bytes.proofs.laws.three_digits_write_it.Goals as goal

pub returns : goal.returns
returns c = Writes-three_digits
