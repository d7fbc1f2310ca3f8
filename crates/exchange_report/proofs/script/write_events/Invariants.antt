-- What is written and the lines of the events that are left come to what was there and the lines of all.
use Rattle.std.proofs.Common.{◌≡◌, ◌++◌, drop}
use Rattle.exchange_report.specs.Script.{events_lines}
use Rattle.exchange_report.proofs.script.write_events.Given as goal

abbrev pub invariant-loop-event : goal.invariant-loop-event
invariant-loop-event l = l.out.items ++ events_lines (drop l.event-index l.events) ≡ l.initial.out.items ++ events_lines l.events
