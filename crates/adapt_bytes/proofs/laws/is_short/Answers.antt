-- A number below the k-th power of its base, for a positive k, is written with at most k digits.
use Rattle.adapt_bytes.proofs.Written.{length-numeral-le}
use Rattle.adapt_bytes.proofs.laws.is_short.Goals as goal

pub returns : goal.returns
returns c = length-numeral-le
