-- No two values from outside that have a byte are written as the same word.
use Rattle.exchange_report.proofs.Apart.{one_word}
use Rattle.exchange_report.proofs.laws.a_word_says_its_value.Goals as goal

pub returns : goal.returns
returns c = one_word
