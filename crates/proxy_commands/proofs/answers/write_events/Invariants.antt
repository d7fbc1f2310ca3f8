-- The text so far and that of the events left are what stood before and the text of all events.
use Rattle.std.proofs.Common.{◌≡◌, ◌++◌, drop}
use Rattle.proxy_commands.specs.Answers.{events_text}
use Rattle.proxy_commands.proofs.answers.write_events.Given as goal

abbrev pub invariant-loop-event : goal.invariant-loop-event
invariant-loop-event l = l.out.items ++ events_text (drop l.event-index l.events) ≡ l.initial.out.items ++ events_text l.events
