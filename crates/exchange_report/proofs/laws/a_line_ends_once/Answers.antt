-- The line of an exchange has one end, whatever its record says.
use Rattle.exchange_report.proofs.OneLine.{ends_once}
use Rattle.exchange_report.proofs.laws.a_line_ends_once.Goals as goal

pub returns : goal.returns
returns c = ends_once
