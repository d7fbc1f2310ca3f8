-- The head of a chosen message, by what the transaction has.
use Rattle.std.proofs.Common.{◌≡◌, ℕ, Bool, List, Option, Some, None}
use Rattle.std.specs.Prelude.{Result, Ok, Err, IfOk, IfSome}
use Rattle.trace_core.specs.declared.history.Cause.{Cause}
use Rattle.trace_core.specs.declared.history.Seen.{Seen}
use Rattle.http_side.specs.Heads.{RequestParts}
use Rattle.http_side.specs.declared.forward.OriginWay.{OriginWay}
use Rattle.http_relay.specs.declared.side.head.SourceHead.{SourceHead}
use Rattle.http_relay.specs.declared.side.head.SourceHead.TheVariants as heads
use Rattle.http_relay.specs.declared.side.SourceSide.{SourceSide}
use Rattle.http_relay.specs.Reading.{request_of}
use Rattle.proxy_rules.specs.Heads.{Makes, MakesOf, user_head, carries_on_of}
use Rattle.proxy_rules.specs.declared.onward.Headed.{Headed}

-- a side whose request is there has read its head
pub was_read : (user : Option SourceSide) (source : SourceHead) (asked : RequestParts) → request_of (user_head user source) ≡ Some asked
    → IfSome user (λ side. side.head ≡ heads.Unread → ⊥)
was_read None source asked e = tt
was_read (Some side) source asked e = λ unread. (let found : request_of heads.Unread ≡ Some asked = rw unread at e in cc)

-- a head made for the request that the user's side read is made of what the transaction has
pub makes : (r : Result Headed Cause) (origin : OriginWay) (last : Bool) (user : Option SourceSide) (source : SourceHead) (x : Seen)
    (adapted : Option (List ℕ)) (is_response : Bool)
    (asked : RequestParts) (carries_on has_body : Bool) → request_of (user_head user source) ≡ Some asked
    → carries_on ≡ carries_on_of last user x → has_body ≡ x.has_body
    → IfOk r (MakesOf source asked carries_on origin adapted is_response has_body)
    → IfOk r (Makes origin last user source x adapted is_response)
makes (Ok headed) origin last user source x adapted is_response asked carries_on has_body e b f m =
    record { asked = asked; asked_is = e; makes = rw (b, f) at m }
makes (Err cause) origin last user source x adapted is_response asked carries_on has_body e b f m = tt
