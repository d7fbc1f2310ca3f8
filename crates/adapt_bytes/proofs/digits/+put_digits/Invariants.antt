-- The number to be written falls with each call.
use Rattle.adapt_bytes.proofs.digits.+put_digits.Given as goal

abbrev pub decreases-put_digits : goal.decreases-put_digits
decreases-put_digits l = l.n
