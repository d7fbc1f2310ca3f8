-- The printed line of an event or a question with no number past 64 bits is read as the same.
use Rattle.proxy_commands.specs.Words.{line_words, line_number}
use Rattle.proxy_commands.proofs.Printed.{printed}
use Rattle.proxy_commands.proofs.laws.reads_what_it_prints.Goals as goal

pub returns : goal.returns
returns c = λ line fits. printed (line_words line) (line_number line) fits
