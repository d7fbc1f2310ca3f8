-- A text is one script at most, or has one first line of another form at most, and never both.
use Rattle.proxy_commands.proofs.Once.{lines_once, good_or_bad, first_once}
use Rattle.proxy_commands.proofs.laws.one_text_one_script.Goals as goal

pub returns : goal.returns
returns c = record { lines = lines_once; good_or_bad = good_or_bad; first = first_once }
