-- Where status and methods are good, a response without a good tag is refused, and so is one with a good tag but no good numbers.
use Rattle.std.proofs.Common.{rules}
use Rattle.options_book.proofs.judged.judge.Goals as goal

pub returns-in_default-clause-err : goal.returns-in_default-clause-err
returns-in_default-clause-err c = (search rules, search rules, c.in_default.ensures)

pub returns-in_default-read_numbers-clause-err : goal.returns-in_default-read_numbers-clause-err
returns-in_default-read_numbers-clause-err c =
    (search rules, search rules, (c.in-Some.tag.now, c.in-Some.ensures), c.in_default-read_numbers.ensures)
