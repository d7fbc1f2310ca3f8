-- In a base from 2 to 16 the numeral of a number is read back as that number.
use Rattle.adapt_bytes.proofs.Written.{Writes-numeral}
use Rattle.adapt_bytes.proofs.laws.reads_what_it_writes.Goals as goal

pub returns : goal.returns
returns c = Writes-numeral
