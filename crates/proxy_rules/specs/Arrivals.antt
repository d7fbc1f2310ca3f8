-- A message whose head is read before its transaction.
use Rattle.std.specs.Prelude.{◌≡◌, ℕ, ◌⊎◌, Bool, false, List, [], ◌++◌, Option, Some, None, Vec}
use Rattle.std.specs.declared.alloc.Global.{Global}
use Rattle.trace_core.specs.declared.history.Point.{Point}
use Rattle.trace_core.specs.declared.history.Point.TheVariants.{Reqmod, Respmod}
use Rattle.http_side.specs.Heads.{RequestParts}
use Rattle.http_relay.specs.declared.side.head.Asks.{Asks}
use Rattle.http_relay.specs.declared.side.head.Asks.TheVariants as asks
use Rattle.http_relay.specs.declared.side.SourceSide.{SourceSide}
use Rattle.http_relay.specs.Reading.{AtHead, Begins, request_of}
use Rattle.wire_kit.specs.declared.wire.Wire.{Ghosts as Wire}
use Rattle.proxy_rules.specs.Grown.{Grown}
use Rattle.proxy_rules.specs.Users.{is_head_request}

-- a source's side, and for a response the side of the user whose request it answers, and the field lines that its service is told
pub record Arrival : Type 0 where
  pub side : SourceSide
  pub user : Option SourceSide
  pub carried : List ℕ

-- the lines that are kept, if any
abbrev pub lines_in : Option (Vec ℕ Global) → List ℕ
lines_in None = []
lines_in (Some lines) = lines.items

-- whether the method of a request is HEAD
abbrev pub is_head_in : Option RequestParts → Bool
is_head_in None = false
is_head_in (Some user) = is_head_request user

-- which messages come: requests; or answers to the user's own request, to HEAD or to another one
abbrev pub asks_of : Option SourceSide → Asks
asks_of None = asks.Request
asks_of (Some user) = asks.Response (is_head_in (request_of user.head))

abbrev pub point_of : Option SourceSide → Point
point_of None = Reqmod
point_of (Some user) = Respmod

-- of its message these bytes were read: its head is still to come, or it begins
abbrev pub HasCome : List ℕ → SourceSide → Type 0
HasCome read s = AtHead read s ⊎ Begins read s

-- what was read of it was read in turns at its head
pub record Arrives (side : SourceSide) (user : Option SourceSide) : Type 0 where
  pub read : List ℕ
  pub has_come : HasCome read side
  pub asks : side.asks ≡ asks_of user

-- A message and its source's wire: the wire was this one when the message began, with these bytes kept from the message before; since then
-- it gave these, and took those. Of the message were read those that were kept, and those that came since.
pub record Came {A : Type 0} (a : Wire A) (first : A) (ahead since beside : List ℕ) (side : SourceSide) (wire : A) : Type 0 where
  pub has_come : HasCome (ahead ++ since) side
  pub wire_is : Grown (a.past first) (a.past wire) since beside
