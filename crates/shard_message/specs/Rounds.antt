-- Rounds of turns.
use Rattle.std.specs.Prelude.{◌≡◌, ◌≤◌, ◌⊎◌, ⊤, Bool, true, false, List, [], ◌∷◌, Option, Some, IfSome}
use Rattle.trace_core.specs.declared.history.Cause.TheVariants.{Memory}
use Rattle.trace_core.specs.declared.history.Cause.TheVariants as causes
use Rattle.trace_core.specs.declared.history.Event.TheVariants.{Retry}
use Rattle.trace_core.specs.Legal.{MayFollow}
use Rattle.plan_rules.specs.declared.pace.Pace.{Pace}
use Rattle.adapt_hold.specs.Holding.{Holding, moved}
use Rattle.adapt_turn.specs.declared.ends.ServiceEnd.{ServiceEnd}
use Rattle.adapt_turn.specs.declared.turn.Outcome.{Outcome}
use Rattle.adapt_turn.specs.declared.turn.Outcome.TheVariants.{Fail}
use Rattle.adapt_turn.specs.declared.turn.Side.{Side}
use Rattle.adapt_turn.specs.declared.turn.Side.TheVariants.{Source, Service, NextHop}
use Rattle.adapt_turn.specs.declared.turn.TurnAnswer.{TurnAnswer}
use Rattle.adapt_turn.specs.declared.turn.TurnAnswer.TheVariants as said
use Rattle.shard_exchange.specs.declared.answers.Round.{Round}
use Rattle.shard_exchange.specs.declared.answers.Round.TheVariants as rounds

-- the sides of a round, in their order
abbrev pub in_turn : List Side
in_turn = Source ∷ Service ∷ NextHop ∷ []

-- what a turn comes to that answered this: the transaction is over with it, or isn't
abbrev pub IsTurned : (over : Bool) → TurnAnswer → Round → Type 0
IsTurned true answer rounds.Over = ⊤
IsTurned false said.Waiting rounds.Waiting = ⊤
IsTurned false (said.Moved n) (rounds.Moved framing) = framing ≤ n
IsTurned false said.Broken rounds.Broken = ⊤
IsTurned false (said.Finished outcome) rounds.Over = ⊤
IsTurned _ _ _ = ⊥

-- no further turn follows it
abbrev pub ends_round : Round → Bool
ends_round rounds.Over = true
ends_round rounds.Broken = true
ends_round _ = false

-- what a turn and those after it come to: the round waits only where each of them did
abbrev pub Adds : (turned rest round : Round) → Type 0
Adds rounds.Waiting rest round = round ≡ rest
Adds (rounds.Moved n) rounds.Waiting round = round ≡ rounds.Moved n
Adds (rounds.Moved n) (rounds.Moved m) (rounds.Moved k) = ⊤
Adds (rounds.Moved n) rounds.Broken round = round ≡ rounds.Broken
Adds (rounds.Moved n) rounds.Over round = round ≡ rounds.Over
Adds _ _ _ = ⊥

-- These turns, one of each side in their order, up to the first one with which the transaction is over or broken.
abbrev pub IsRound : {T : Type 0} → (turn : T → Side → TurnAnswer → T → Type 0) → (over : T → Bool) → List Side → (old new : T) → Round
    → Type 0
IsRound turn over [] old new round = (new ≡ old) × (round ≡ rounds.Waiting)
IsRound {T} turn over (side ∷ later) old new round =
    (mid : T) × (answer : TurnAnswer) × (turned : Round) × turn old side answer mid × IsTurned (over mid) answer turned ×
    (((ends_round turned ≡ true) × (new ≡ mid) × (round ≡ turned)) ⊎ ((ends_round turned ≡ false)
    × ((rest : Round) × IsRound turn over later mid new rest × Adds turned rest round)))

-- Where the service's connection broke: the request begins anew, over a connection that was opened for that, and not over the broken
-- one; or it fails for want of one.
abbrev pub IsRenewed : {V W : Type 0} → (opened : W → Type 0) → (old new : Holding) → Option (ServiceEnd V W) → Outcome → Round → Type 0
IsRenewed {V} {W} opened old new service outcome rounds.Broken =
    (new ≡ moved old Retry []) × ((wire : W) × opened wire × IfSome service (λ line. line.wire ≡ Some wire))
IsRenewed opened old new service outcome rounds.Over = (outcome ≡ Fail Memory) ⊎ (outcome ≡ Fail causes.Service)
IsRenewed opened old new service outcome rounds.Waiting = ⊥
IsRenewed opened old new service outcome (rounds.Moved framing) = ⊥

-- the connection to the service is known to be broken, and the request may begin anew
abbrev pub MayRenew : Pace → Holding → Type 0
MayRenew pace hold = (pace.broken ≡ true) × MayFollow hold.history.plan hold.history.events Retry

abbrev pub is_broken : Round → Bool
is_broken rounds.Broken = true
is_broken _ = false

-- A round: what its turns did, and where these end with a broken connection, what came of that.
abbrev pub ComesTo : {T : Type 0} → (turns : T → Round → Type 0) → (renewed : T → Round → Type 0) → (new : T) → Round → Type 0
ComesTo {T} turns renewed new round = (turns new round × (is_broken round ≡ false))
    ⊎ ((mid : T) × turns mid rounds.Broken × renewed mid round)
