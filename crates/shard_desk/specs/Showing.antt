-- What the administrator gets to see of a message that moves.
use Rattle.std.specs.Prelude.{Bool, Option, None, Some, if◌then◌else◌}
use Rattle.adapt_turn.specs.declared.turn.Outcome.{Outcome}
use Rattle.adapt_turn.specs.declared.turn.Outcome.TheVariants.{Done, Fail}
use Rattle.exchange_report.specs.declared.awaited.Outgoing.{Outgoing}
use Rattle.exchange_report.specs.declared.awaited.Outgoing.TheVariants.{Message, Answer, Refusal}

-- what goes out of it, by how its transaction ended, where that is over, and by whether its service answers the request itself
abbrev pub outgoing_by : Option Outcome → Bool → Outgoing
outgoing_by None answers = if answers then Answer else Message
outgoing_by (Some Done) answers = if answers then Answer else Message
outgoing_by (Some (Fail cause)) answers = Refusal
