-- The head with which a message goes on (RFC 9110, section 7.6; RFC 9112, sections 6 and 9).
use Rattle.std.specs.Prelude.{◌≡◌, ℕ, Bool, true, false, not, ◌||◌, ◌&&◌, List, length, nat_lt, if◌then◌else◌}
use Rattle.trace_core.specs.declared.history.Cause.{Cause}
use Rattle.trace_core.specs.declared.history.Cause.TheVariants as causes
use Rattle.http_side.specs.declared.fault.HttpFault.{HttpFault}
use Rattle.http_side.specs.declared.fault.HttpFault.TheVariants as http
use Rattle.http_side.specs.declared.forward.Forward.{Forward}
use Rattle.http_side.specs.declared.forward.Message.{Message}
use Rattle.http_side.specs.declared.forward.Message.TheVariants.{Request, Response}
use Rattle.http_side.specs.declared.forward.BodyKind.{BodyKind}
use Rattle.http_side.specs.declared.forward.BodyKind.TheVariants.{Body, NullBody}
use Rattle.http_side.specs.declared.forward.OriginUse.{OriginUse}
use Rattle.http_side.specs.declared.forward.OriginUse.TheVariants.{Once, Fresh, Kept}
use Rattle.http_side.specs.declared.forward.OriginWay.{OriginWay}
use Rattle.http_side.specs.declared.body.Framing.{Framing}
use Rattle.http_side.specs.Forward.{forwarded, next_framing, closes}
use Rattle.http_side.specs.Framings.{is_bare}
use Rattle.http_side.specs.Heads.{RequestParts, ResponseParts}
use Rattle.http_side.specs.Requests.{IsRead}
use Rattle.http_side.specs.Responses.{IsResponseRead}
use Rattle.proxy_rules.specs.Connections.{repeats}
use Rattle.proxy_rules.specs.declared.onward.Headed.{Headed}

-- the message is this request, or this response
abbrev pub IsRequest : RequestParts → Message → Type 0
IsRequest parts (Request r) = r.now ≡ parts
IsRequest parts (Response r) = ⊥

abbrev pub IsResponse : ResponseParts → Message → Type 0
IsResponse parts (Request r) = ⊥
IsResponse parts (Response r) = r.now ≡ parts

-- what a service sent is named by its Encapsulated list
abbrev pub part_of : Bool → BodyKind
part_of has_body = if has_body then Body else NullBody

-- a head that a service sent is its fault, unless memory ran out
abbrev pub cause_of : HttpFault → Cause
cause_of http.NoMemory = causes.Memory
cause_of _ = causes.Service

-- a response that a service made isn't interim, and has a body part only where a body may follow
abbrev pub may_answer : Bool → ResponseParts → Bool
may_answer has_body r = (nat_lt r.status 100 || nat_lt 199 r.status) && (not has_body || not (is_bare r))

-- the text is just a head that a service may send
pub record IsAnswerOf (to_head has_body : Bool) (text : List ℕ) (parts : ResponseParts) : Type 0 where
  pub read : IsResponseRead to_head text parts (length text)
  pub may : may_answer has_body parts ≡ true

abbrev pub IsAdaptedRequest : List ℕ → Message → Type 0
IsAdaptedRequest text message = (parts : RequestParts) × IsRead true text parts (length text) × IsRequest parts message

abbrev pub IsAdaptedResponse : Bool → Bool → List ℕ → Message → Type 0
IsAdaptedResponse to_head has_body text message = (parts : ResponseParts) × IsAnswerOf to_head has_body text parts
    × IsResponse parts message

abbrev pub NoAdaptedRequest : List ℕ → Type 0
NoAdaptedRequest text = (parts : RequestParts) → IsRead true text parts (length text) → ⊥

abbrev pub NoAdaptedResponse : Bool → Bool → List ℕ → Type 0
NoAdaptedResponse to_head has_body text = (parts : ResponseParts) → IsAnswerOf to_head has_body text parts → ⊥

-- a message may go out on a connection of this use: a request goes out on one that was kept only if it may be sent again
abbrev pub suits_use : OriginUse → Message → Framing → Bool
suits_use Kept (Request r) framing = repeats r.now.method framing
suits_use Kept (Response r) framing = true
suits_use Once message framing = true
suits_use Fresh message framing = true

abbrev pub suits : Forward → Bool
suits f = suits_use f.origin.connection f.message (next_framing f)

-- a message of this kind, for a user with this request, that may not go out this way
pub record IsUnfit (user : RequestParts) (origin : OriginWay) (part : BodyKind) (is_it : Message → Type 0) : Type 0 where
  pub forward : Forward
  pub user_is : forward.user.now ≡ user
  pub origin_is : forward.origin ≡ origin
  pub part_is : forward.part ≡ part
  pub message_is : is_it forward.message
  pub unfit : suits forward ≡ false

-- The head of a message of this kind, for a user with this request, whose connection may carry a further one or not, this way to its
-- origin where it is a request: its text, how its body goes, and whether the user's connection ends after it.
pub record IsForwarded (user : RequestParts) (carries_on : Bool) (origin : OriginWay) (part : BodyKind) (is_it : Message → Type 0)
    (headed : Headed) : Type 0 where
  pub forward : Forward
  pub user_is : forward.user.now ≡ user
  pub carries_on_is : forward.carries_on ≡ carries_on
  pub origin_is : forward.origin ≡ origin
  pub suits_is : suits forward ≡ true
  pub part_is : forward.part ≡ part
  pub message_is : is_it forward.message
  pub head_is : headed.head.items ≡ forwarded forward
  pub framing_is : headed.framing ≡ next_framing forward
  pub closes_is : headed.closes ≡ closes forward
