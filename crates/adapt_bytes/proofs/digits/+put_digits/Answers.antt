-- The digits of a positive number are those of its quotient by the base, and then the remainder as one digit.
use Rattle.std.proofs.Common.{append_assoc}
use Rattle.adapt_bytes.proofs.Numerals.{digits_more}
use Rattle.adapt_bytes.proofs.digits.+put_digits.Goals as goal

pub returns-then-n-gt0-clause-items : goal.returns-then-n-gt0-clause-items
returns-then-n-gt0-clause-items t c =
    let more = digits_more c.args.base c.args.n c.requires.low c.if-n-gt0.true in
    rw (c.push.ensures.items, c.put_digits.ensures.items, more.2, c.digit_byte.ensures) (simp append_assoc)
