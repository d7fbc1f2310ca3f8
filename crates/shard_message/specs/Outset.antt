-- How a message set out, and what becomes of that.
use Rattle.std.specs.Prelude.{◌≡◌, ⊤, ℕ, true, List, [], Option, None, Some, Box, IfSome}
use Rattle.std.specs.declared.alloc.Global.{Global}
use Rattle.trace_core.specs.declared.history.Point.{Point}
use Rattle.trace_core.specs.declared.history.Point.TheVariants.{Reqmod, Respmod}
use Rattle.wire_kit.specs.declared.wire.Wire.{Ghosts as Wire}
use Rattle.http_relay.specs.declared.side.SourceSide.{SourceSide}
use Rattle.proxy_rules.specs.Arrivals.{Arrival, Came, HasCome, point_of}
use Rattle.proxy_rules.specs.Grown.{Grown}
use Rattle.proxy_rules.specs.Offers.{text_of}
use Rattle.proxy_rules.specs.Since.{Snapshot, held_or}
use Rattle.shard_exchange.specs.declared.answers.Round.{Round}
use Rattle.shard_exchange.specs.declared.answers.Round.TheVariants as rounds
use Rattle.shard_exchange.specs.declared.ends.End.{End}
use Rattle.shard_exchange.specs.declared.ends.End.TheVariants as ends
use Rattle.shard_message.specs.Begun.{Beginning}

-- How a message set out. Its connections are as they were then, and its source's as it was before the first byte of the message was read
-- of it. The source of a request is the user, that of a response the origin.
pub record Outset (U S O : Type 0) : Type 0 where
  -- the request that was offered, up to its chunks
  pub request : List ℕ
  -- bytes of the message that its source's connection had given before: they were left over from the message before it
  pub ahead : List ℕ
  -- bytes that its source's connection took from the first read of the message up to when it set out
  pub beside : List ℕ
  pub user : U
  pub origin : O
  -- the service's connection as the request began on it: when the message set out, or in the place of a broken one
  pub line : Option S
  -- and as it was when it was given up
  pub given : Option S

-- the same of the transaction of a request, and of that of a response
abbrev pub of_request : {U S O : Type 0} → Outset U S O → Snapshot U S O
of_request s = record {
  request = s.request;
  ahead = s.ahead;
  beside = s.beside;
  source = s.user;
  next = s.origin;
  line = s.line;
  given = s.given;
}

abbrev pub of_response : {U S O : Type 0} → Outset U S O → Snapshot O S U
of_response s = record {
  request = s.request;
  ahead = s.ahead;
  beside = s.beside;
  source = s.origin;
  next = s.user;
  line = s.line;
  given = s.given;
}

-- the message came over its source's connection, since that was this one; the next hop's is the one that it goes to
abbrev pub HasComeOver : {U S O : Type 0} → Wire U → Wire O → Point → SourceSide → Outset U S O → (since : List ℕ) → U → O → Type 0
HasComeOver u o Reqmod side s since user origin = Came u s.user s.ahead since s.beside side user × (s.origin ≡ origin)
HasComeOver u o Respmod side s since user origin = Came o s.origin s.ahead since s.beside side origin × (s.user ≡ user)

-- a message that begins to move with this, over these connections, sets out so
pub record SetsOut {U S O : Type 0} (u : Wire U) (o : Wire O) (b : Beginning) (user : U) (service : Option S) (origin : O)
    (s : Outset U S O) : Type 0 where
  pub since : List ℕ
  pub came : HasComeOver u o (point_of b.message.user) b.message.side s since user origin
  pub request : IfSome b.planned (λ planned. s.request ≡ text_of planned.value.offer.side)
  pub line : (s.line ≡ service) × (s.given ≡ None)

-- Where an answer of the origin begins, no byte of it was read yet; and since its request set out over this connection, which is as it was
-- dialed, and so as an earlier exchange left it, where one did, the connection has given nothing.
abbrev pub BeginsClean : {O : Type 0} → Wire O → End → (dialed : O) → (origin : Option O) → Option (Box Arrival Global) → Type 0
BeginsClean o (ends.Sent true) dialed (Some origin) (Some message) =
    HasCome [] message.value.side × ((taken : List ℕ) × Grown (o.past dialed) (o.past origin) [] taken)
BeginsClean o (ends.Sent true) dialed origin message = ⊥
BeginsClean o end dialed origin message = ⊤

-- What a round makes of the service's connection as the request began on it, and as it was given up: the request began anew on one that
-- was opened for that; or the message is over, and a broken one may have been closed; or nothing changed.
abbrev pub IsLineAfter : {S : Type 0} → (opened : S → Type 0) → Round → (old was line given : Option S) → Type 0
IsLineAfter opened rounds.Broken old was line given = IfSome line opened × (given ≡ None)
IsLineAfter {S} opened rounds.Over old was line given = (line ≡ old) × ((broken : Option S) × (given ≡ held_or broken was))
IsLineAfter opened rounds.Waiting old was line given = (line ≡ old) × (given ≡ was)
IsLineAfter opened (rounds.Moved framing) old was line given = (line ≡ old) × (given ≡ was)
