-- A numeral has no leading zero and no letter in upper case, and is the only such spelling of its number.
use Rattle.adapt_bytes.proofs.Spellings.{short_spelling, only_spelling}
use Rattle.adapt_bytes.proofs.laws.writes_the_only_short_spelling.Goals as goal

pub returns-clause-short : goal.returns-clause-short
returns-clause-short c = short_spelling

pub returns-clause-only : goal.returns-clause-only
returns-clause-only c = only_spelling
