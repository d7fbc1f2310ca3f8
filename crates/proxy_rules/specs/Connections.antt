-- Users' and origins' connections (RFC 9112, section 9.3), and requests that may be repeated (RFC 9110, section 9.2).
use Rattle.std.specs.Prelude.{◌≡◌, ◌≢◌, ℕ, Bool, true, false, ◌||◌, ◌&&◌, List, [], ◌==◌, codes, bytes_eq, Option, Some, None}
use Rattle.adapt_turn.specs.declared.turn.Outcome.{Outcome}
use Rattle.adapt_turn.specs.declared.turn.Outcome.TheVariants.{Done}
use Rattle.http_side.specs.Heads.{RequestParts, ResponseParts}
use Rattle.http_side.specs.Framings.{request_framing}
use Rattle.http_side.specs.Lasting.{lets_last}
use Rattle.http_side.specs.declared.body.Framing.{Framing}
use Rattle.http_side.specs.declared.body.Framing.TheVariants as by
use Rattle.http_relay.specs.declared.side.SourceSide.{SourceSide}
use Rattle.http_relay.specs.declared.side.head.SourceHead.TheVariants.{Unread}
use Rattle.http_relay.specs.Reading.{response_of}

-- A user's connection carries a further request: the answer went out whole, its head didn't say that the connection closes, and
-- the request was read to its end.
pub record CarriesOn (outcome : Outcome) (closes : Bool) (user : SourceSide) : Type 0 where
  pub done : outcome ≡ Done
  pub stays : closes ≡ false
  pub over : user.body.ended ≡ true
  pub read : user.head ≡ Unread → ⊥

-- an answer's head lets its connection last; one that wasn't read doesn't
abbrev pub has_lasting_head : Option ResponseParts → Bool
has_lasting_head None = false
has_lasting_head (Some r) = lets_last r

-- Another request may go out on an origin's connection: its answer was read whole, by its framing and not by the close; its head lets
-- the connection last; no byte is left over; and nothing failed.
pub record Lasts (outcome : Outcome) (origin : SourceSide) : Type 0 where
  pub done : outcome ≡ Done
  pub over : origin.body.ended ≡ true
  pub framed : origin.body.framing ≢ by.Close
  pub head : has_lasting_head (response_of origin.head) ≡ true
  pub none_left : origin.raw.items ≡ []
  pub faultless : origin.fault ≡ None

-- the safe methods (RFC 9110, section 9.2.1)
abbrev pub is_safe : List ℕ → Bool
is_safe method =
    bytes_eq method (codes "GET")
    || (bytes_eq method (codes "HEAD") || (bytes_eq method (codes "OPTIONS") || bytes_eq method (codes "TRACE")))

-- no byte follows the head
abbrev pub has_no_body : Framing → Bool
has_no_body by.None = true
has_no_body (by.Length n) = n == 0
has_no_body by.Chunked = false
has_no_body by.Close = false

-- a request of this method that goes out so may be sent again: it is safe, and has no body
abbrev pub repeats : List ℕ → Framing → Bool
repeats method framing = is_safe method && has_no_body framing

-- a user's request may be sent again
abbrev pub may_repeat : RequestParts → Bool
may_repeat r = repeats r.method (request_framing r)
