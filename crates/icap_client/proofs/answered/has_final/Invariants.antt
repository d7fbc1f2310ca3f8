-- Whether a final response is among the events is told by those that are left.
use Rattle.std.proofs.Common.{◌≡◌, drop}
use Rattle.std.specs.List.{list_any}
use Rattle.icap_client.specs.Events.{is_final}
use Rattle.icap_client.proofs.answered.has_final.Given as goal

abbrev pub invariant-loop-event : goal.invariant-loop-event
invariant-loop-event l = list_any is_final l.events ≡ list_any is_final (drop l.event-index l.events)
