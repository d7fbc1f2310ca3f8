-- What a service is asked: the text of a request to it (RFC 3507, sections 4.4, 4.8 and 4.9).
use Rattle.std.specs.Prelude.{◌≡◌, ℕ, Bool, true, false, ◌&&◌, List, [], Option, Some, None, MatchOption, option_map, ⊤, string_bytes}
use Rattle.std.specs.Net.Socket.{v4_port}
use Rattle.std.specs.declared.net.ipv4_addr.Ipv4Addr.{Ipv4Addr}
use Rattle.trace_core.specs.declared.history.Plan.{Plan}
use Rattle.trace_core.specs.History.{is_plain, is_preview, is_null}
use Rattle.http_side.specs.Heads.{RequestParts, ResponseParts}
use Rattle.http_side.specs.Targets.{authority_of}
use Rattle.http_side.specs.Forward.{request_text, response_text, no_extra}
use Rattle.chunk_writer.specs.Writer.{fresh}
use Rattle.icap_client.specs.Laws.{first_reader}
use Rattle.icap_client.specs.RequestHead.{request_head}
use Rattle.icap_client.specs.Turns.{Service}
use Rattle.options_book.specs.Options.{Options}
use Rattle.proxy_config.specs.declared.point.ServicePoint.{ServicePoint}

-- the heads as a service gets them: the user's own request in absolute form, and the response
abbrev pub offered_request : RequestParts → List ℕ
offered_request user = request_text user (authority_of user.target) true no_extra

abbrev pub offered_response : ResponseParts → List ℕ
offered_response response = response_text response no_extra

-- the text of the ICAP request to this service, up to its chunks; it is told the user's address `from`, or isn't, and the field lines
-- that are carried on
abbrev pub offered_text : ServicePoint → Plan → (from : Option Ipv4Addr) → (carried : List ℕ) → List ℕ → List ℕ → List ℕ
offered_text service plan from carried req res = request_head plan from carried (string_bytes service.host) (v4_port service.address)
    (string_bytes service.path) req res

-- a service's side with a request of this text up to its chunks, which has written and read nothing yet and has no fault
pub record IsUnused (request : List ℕ) (s : Service) : Type 0 where
  pub writer : s.writer ≡ fresh request
  pub reader : s.replies.reader ≡ first_reader s.replies.reader.point
  pub raw : s.replies.raw ≡ []
  pub marks : (s.last_stop ≡ false) × (s.answered ≡ false)
  pub fault : s.replies.fault ≡ None

-- a preview of a body that is known to be empty
abbrev pub previews_nothing : Plan → Bool
previews_nothing plan = is_preview plan.kind && is_null plan.len

-- the side offers a message of just this plan: its request has the text of that, for a service at some host, port and path, and with
-- some encapsulated heads
pub record IsOfPlan (plan : Plan) (s : Service) : Type 0 where
  pub from : Option Ipv4Addr
  pub carried : List ℕ
  pub host : List ℕ
  pub port : ℕ
  pub path : List ℕ
  pub req : List ℕ
  pub res : List ℕ
  pub unused : IsUnused (request_head plan from carried host port path req res) s
  pub point : s.replies.reader.point ≡ plan.point
  pub offered : is_plain plan.kind ≡ false
  pub some : previews_nothing plan ≡ false

-- without a side the plan is Plain; else the side is of the plan
abbrev pub Binds : Plan → Option Service → Type 0
Binds plan side = MatchOption side (is_plain plan.kind ≡ true) (IsOfPlan plan)

-- a plan, and the side that offers the message
pub record Offered : Type 0 where
  pub plan : Plan
  pub side : Option Service

-- the same offer, of whose body one turn writes at most this many bytes
abbrev pub with_turn : ℕ → Offered → Offered
with_turn turn o = record { plan = o.plan; side = option_map (λ (s : Service). record s { turn = turn }) o.side }

-- the text of its request up to its chunks; nothing where it isn't offered
abbrev pub text_of : Option Service → List ℕ
text_of None = []
text_of (Some side) = side.writer.head

-- what a service's record says, where there is a service
abbrev pub options_for : Option ServicePoint → Option Options → Option Options
options_for None options = None
options_for (Some service) options = options

-- where it is offered, the service gets the text of the plan with the user's address, where it is told it, with the field lines that are
-- carried on, and with these heads
abbrev pub AsksFor : Option ServicePoint → (from : Option Ipv4Addr) → (carried : List ℕ) → (req res : List ℕ) → Offered → Type 0
AsksFor None from carried req res offer = offer.side ≡ None
AsksFor (Some service) from carried req res offer =
    MatchOption offer.side ⊤ (IsUnused (offered_text service offer.plan from carried req res))
