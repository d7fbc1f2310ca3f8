-- The line of a record whose numbers have 64 bits is no longer.
use Rattle.std.proofs.Common.{arith, rules}
use Rattle.exchange_report.proofs.Rooms.{IsInRange, line_room}
use Rattle.exchange_report.proofs.live.live_room.Goals as goal

pub returns : goal.returns
returns c =
    let range : IsInRange c.args.live.now = record {
      thread = search rules;
      key = search rules;
      number = search rules;
      age = search rules;
      still = search rules;
      held_from = search rules;
      held_end = search rules;
      adapted_from = search rules;
      adapted_end = search rules;
      received = search rules;
      sent = search rules;
      adapted_received = search rules;
      delivered = search rules;
      claim = search rules;
      user = search rules;
    } in
    omega (arith, line_room c.args.live.now range, c.min-method.ensures, c.min-target.ensures)
