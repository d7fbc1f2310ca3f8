-- Two numbers that one text spells in one base are the same.
use Rattle.adapt_bytes.proofs.Spellings.{spells_one}
use Rattle.adapt_bytes.proofs.laws.spells_one_number.Goals as goal

pub returns : goal.returns
returns c = spells_one
