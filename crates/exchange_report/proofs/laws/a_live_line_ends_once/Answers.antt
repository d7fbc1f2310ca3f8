-- The line of an exchange that isn't over has one end, whatever its record says.
use Rattle.exchange_report.proofs.ScriptLines.{live_once}
use Rattle.exchange_report.proofs.laws.a_live_line_ends_once.Goals as goal

pub returns : goal.returns
returns c = live_once
