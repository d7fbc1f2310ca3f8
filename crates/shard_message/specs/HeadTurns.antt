-- What a turn at a message's head is told as.
use Rattle.std.specs.Prelude.{◌≡◌, ◌⊎◌, ℕ, zero, suc, None, Result, Ok, Err}
use Rattle.adapt_sides.specs.declared.fault.RelayFault.{RelayFault}
use Rattle.http_relay.specs.declared.side.head.HeadProgress.{HeadProgress}
use Rattle.http_relay.specs.declared.side.head.HeadProgress.TheVariants as progress
use Rattle.http_relay.specs.declared.side.head.SourceHead.TheVariants.{Unread}
use Rattle.http_relay.specs.declared.side.SourceSide.{SourceSide}
use Rattle.http_relay.specs.Reading as reading
use Rattle.shard_exchange.specs.declared.answers.HeadTurn.{HeadTurn}
use Rattle.shard_exchange.specs.declared.answers.HeadTurn.TheVariants as turns
use Rattle.wire_kit.specs.Past.{Past}

-- bytes of a head that isn't whole, after so many interim responses
abbrev pub part_of : (interims : ℕ) → HeadTurn
part_of zero = turns.More
part_of (suc n) = turns.Interim

-- A turn that came to this is told as this: a head as read only where it was; what isn't whole yet as bytes of it, which count as those of
-- an interim response once there was one, or as nothing; and a fault as just that. interims: how many of them there were.
abbrev pub IsToldAs : (interims : ℕ) → Result HeadProgress RelayFault → HeadTurn → Type 0
IsToldAs interims (Ok progress.Taken) turn = turn ≡ turns.Whole
IsToldAs interims (Ok progress.Interim) turn = turn ≡ turns.Interim
IsToldAs interims (Ok progress.More) turn = (turn ≡ part_of interims) ⊎ (turn ≡ turns.Nothing)
IsToldAs interims (Err fault) turn = turn ≡ turns.Fault fault

-- A turn was taken at a head, over its connection, and is told as what it came to. Of a head that is still to come, and at which nothing
-- was found at fault, that is what its bytes say.
pub record TellsTurn (old new : SourceSide) (before after : Past → Type 0) (turn : HeadTurn) : Type 0 where
  pub came : Result HeadProgress RelayFault
  pub told : IsToldAs new.interims came turn
  pub took : old.fault ≡ None → old.head ≡ Unread → reading.HeadTurn old new before after came
