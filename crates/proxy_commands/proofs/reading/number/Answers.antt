-- A decimal below 2^64 is read as its number, and no other text is read as one.
use Rattle.std.proofs.Common.{rules}
use Rattle.proxy_commands.proofs.Decimals.{decimal_of-answer}
use Rattle.proxy_commands.proofs.reading.number.Goals as goal

pub returns : goal.returns
returns c = decimal_of-answer c.args.digits.now c.read_decimal.result c.read_decimal.ensures.found (search rules)
    c.read_decimal.ensures.none
