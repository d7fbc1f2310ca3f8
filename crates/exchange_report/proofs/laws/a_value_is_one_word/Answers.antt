-- Each byte of the word of a value from outside is visible, and no quote.
use Rattle.exchange_report.proofs.OneWord.{plain_word}
use Rattle.exchange_report.proofs.laws.a_value_is_one_word.Goals as goal

pub returns-clause-visible : goal.returns-clause-visible
returns-clause-visible c = λ value bytes. plain_word value bytes
