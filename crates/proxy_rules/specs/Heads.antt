-- The head of a transaction's chosen message.
use Rattle.std.specs.Prelude.{◌≡◌, ◌⊎◌, Bool, true, false, not, ◌&&◌, List, ℕ, Option, Some, None}
use Rattle.trace_core.specs.declared.history.Cause.{Cause}
use Rattle.trace_core.specs.declared.history.Cause.TheVariants as causes
use Rattle.trace_core.specs.declared.history.Seen.{Seen}
use Rattle.http_side.specs.declared.body.Framing.{Framing}
use Rattle.http_side.specs.declared.forward.Message.{Message}
use Rattle.http_side.specs.declared.forward.OriginWay.{OriginWay}
use Rattle.http_side.specs.declared.forward.BodyKind.TheVariants.{Own}
use Rattle.http_side.specs.Heads.{RequestParts}
use Rattle.http_relay.specs.declared.side.head.SourceHead.{SourceHead}
use Rattle.http_relay.specs.declared.side.head.SourceHead.TheVariants as heads
use Rattle.http_relay.specs.declared.side.SourceSide.{SourceSide}
use Rattle.http_relay.specs.Reading.{request_of}
use Rattle.proxy_rules.specs.Users.{is_head_request}
use Rattle.proxy_rules.specs.Onward.{IsForwarded, IsUnfit, IsRequest, IsResponse, IsAdaptedRequest, IsAdaptedResponse, NoAdaptedRequest}
use Rattle.proxy_rules.specs.Onward.{NoAdaptedResponse, part_of}
use Rattle.proxy_rules.specs.declared.onward.Headed.{Headed}

-- the original is what the source's head says
abbrev pub IsOriginal : SourceHead → Message → Type 0
IsOriginal heads.Unread message = ⊥
IsOriginal (heads.Request r) message = IsRequest r message
IsOriginal (heads.Response r) message = IsResponse r message

-- the chosen message: the original, or the one whose head a service sent
abbrev pub MakesOf : SourceHead → RequestParts → Bool → OriginWay → Option (List ℕ) → Bool → Bool → Headed → Type 0
MakesOf source user carries_on origin None is_response has_body headed = IsForwarded user carries_on origin Own (IsOriginal source) headed
MakesOf source user carries_on origin (Some text) true has_body headed =
    IsForwarded user carries_on origin (part_of has_body) (IsAdaptedResponse (is_head_request user) has_body text) headed
MakesOf source user carries_on origin (Some text) false has_body headed =
    IsForwarded user carries_on origin (part_of has_body) (IsAdaptedRequest text) headed

-- what the user's side read: the head of the request, which is the source's own, or of the one that is answered
abbrev pub user_head : Option SourceSide → SourceHead → SourceHead
user_head None source = source
user_head (Some user) source = user.head

-- whether its body was read to its end: as the history shows of the source, or as the side says
abbrev pub body_read_of : Option SourceSide → Seen → Bool
body_read_of None x = x.ended
body_read_of (Some user) x = user.body.ended

-- whether the connection may carry a further request: the message isn't its last one, and the request was read to its end
abbrev pub carries_on_of : Bool → Option SourceSide → Seen → Bool
carries_on_of last user x = not last && body_read_of user x

-- a message that goes on, of what the transaction has
pub record Makes (origin : OriginWay) (last : Bool) (user : Option SourceSide) (source : SourceHead) (x : Seen) (adapted : Option (List ℕ))
    (is_response : Bool) (headed : Headed) : Type 0 where
  pub asked : RequestParts
  pub asked_is : request_of (user_head user source) ≡ Some asked
  pub makes : MakesOf source asked (carries_on_of last user x) origin adapted is_response x.has_body headed

-- and what is remembered of it: its text, how its body goes, and whether the user's connection ends after it
pub record Remembers (origin : OriginWay) (last : Bool) (user : Option SourceSide) (source : SourceHead) (x : Seen)
    (adapted : Option (List ℕ)) (is_response : Bool) (head : List ℕ) (framing : Framing) (ends : Bool) : Type 0 where
  pub headed : Headed
  pub makes : Makes origin last user source x adapted is_response headed
  pub head_is : head ≡ headed.head.items
  pub framing_is : framing ≡ headed.framing
  pub ends_is : ends ≡ headed.closes

-- why no head is made of the chosen message: memory ran out, no head was read, the service sent no head that may go on, or the message
-- is a request that may not go out on a kept connection
abbrev pub MakesNoneOf : SourceHead → RequestParts → OriginWay → Option (List ℕ) → Bool → Bool → Cause → Type 0
MakesNoneOf source user origin None is_response has_body cause =
    (cause ≡ causes.Memory) ⊎ ((cause ≡ causes.Source) × (source ≡ heads.Unread))
    ⊎ ((cause ≡ causes.NextHop) × IsUnfit user origin Own (IsOriginal source))
MakesNoneOf source user origin (Some text) true has_body cause =
    (cause ≡ causes.Memory) ⊎ ((cause ≡ causes.Service) × NoAdaptedResponse (is_head_request user) has_body text)
MakesNoneOf source user origin (Some text) false has_body cause =
    (cause ≡ causes.Memory) ⊎ ((cause ≡ causes.Service) × NoAdaptedRequest text)
    ⊎ ((cause ≡ causes.NextHop) × IsUnfit user origin (part_of has_body) (IsAdaptedRequest text))

-- why no head is made: the head of the user's request wasn't read; or it was, and none is made of the chosen message
abbrev pub MakesNone : OriginWay → Option SourceSide → SourceHead → Seen → Option (List ℕ) → Bool → Cause → Type 0
MakesNone origin user source x adapted is_response cause =
    ((cause ≡ causes.Source) × (request_of (user_head user source) ≡ None))
    ⊎ ((asked : RequestParts) × (request_of (user_head user source) ≡ Some asked)
    × MakesNoneOf source asked origin adapted is_response x.has_body cause)
