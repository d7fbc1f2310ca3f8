-- Whether a 100 is among the events is told by those that are left.
use Rattle.std.proofs.Common.{◌≡◌, drop}
use Rattle.std.specs.List.{list_any}
use Rattle.trace_core.specs.History.{is_continue}
use Rattle.icap_client.proofs.answered.has_continue.Given as goal

abbrev pub invariant-loop-event : goal.invariant-loop-event
invariant-loop-event l = list_any is_continue l.events ≡ list_any is_continue (drop l.event-index l.events)
