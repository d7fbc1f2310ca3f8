-- How a message is planned, by what its point's service said of its options (RFC 3507, sections 4.5, 4.6 and 4.10).
use Rattle.std.specs.Prelude.{◌≡◌, ℕ, Bool, true, false, List, [], ⊤, Option, Some, None, Result, Ok, Err, Box, is_some, if◌then◌else◌}
use Rattle.std.specs.declared.alloc.Global.{Global}
use Rattle.std.specs.declared.net.ipv4_addr.Ipv4Addr.{Ipv4Addr}
use Rattle.trace_core.specs.declared.history.Point.{Point}
use Rattle.trace_core.specs.declared.history.Point.TheVariants.{Reqmod, Respmod}
use Rattle.http_side.specs.Framings.{request_framing, response_framing}
use Rattle.http_side.specs.Heads.{RequestParts, ResponseParts}
use Rattle.http_relay.specs.Reading.{request_of, response_of}
use Rattle.options_book.specs.Options.{Options}
use Rattle.plan_rules.specs.declared.limits.Limits.{Limits}
use Rattle.proxy_config.specs.declared.config.Config.{Config}
use Rattle.proxy_config.specs.declared.point.ServicePoint.{ServicePoint}
use Rattle.proxy_rules.specs.Arrivals.{Arrival, point_of}
use Rattle.proxy_rules.specs.Heads.{user_head}
use Rattle.proxy_rules.specs.Offers.{Offered, AsksFor, options_for, offered_request, offered_response}
use Rattle.proxy_rules.specs.Origins.{bare_path}
use Rattle.proxy_rules.specs.Plans.{IsPlanned, known_length}
use Rattle.proxy_rules.specs.Routes.{IsRoute, IsUnrouted}
use Rattle.proxy_rules.specs.declared.route.Route.{Route}
use Rattle.proxy_rules.specs.declared.route.Unrouted.TheVariants as unrouted
use Rattle.proxy_rules.specs.Connections.{may_repeat}
use Rattle.proxy_rules.specs.Users.{awaits_continue}
use Rattle.service_pool.specs.declared.book.PointBook.{PointBook}
use Rattle.service_pool.specs.Books.{Serves}
use Rattle.exchange_report.specs.declared.reason.Reason.{Reason}
use Rattle.exchange_report.specs.declared.reason.Reason.TheVariants.{UnknownHost, Denied, OriginRefused, NoMemory}
use Rattle.shard_exchange.specs.declared.answers.Marks.{Marks}
use Rattle.shard_exchange.specs.declared.answers.Unplanned.{Unplanned}
use Rattle.shard_exchange.specs.declared.answers.Unplanned.TheVariants.{Stale, Refused}
use Rattle.shard_message.specs.declared.planning.Planned.{Planned}

-- what a message is planned by
pub record Grounds : Type 0 where
  pub config : Config
  pub limits : Limits
  -- what the service of its point said last
  pub book : PointBook
  -- the moment
  pub now : ℕ
  -- whether the service was asked for this very message
  pub asked : Bool
  -- where its user's connection comes from, as far as that is known
  pub user : Option Ipv4Addr

abbrev pub grounds : Config → Limits → PointBook → ℕ → Bool → Option Ipv4Addr → Grounds
grounds a b c d e f = record { config = a; limits = b; book = c; now = d; asked = e; user = f }

-- what was read of a message: the head of the user's request, and of a response to it
pub data Heads : Type 0 where
  request : (user : RequestParts) → Heads
  response : (user : RequestParts) → (answer : ResponseParts) → Heads
  missing : Heads

abbrev pub heads_at : Point → Option RequestParts → Option ResponseParts → Heads
heads_at Reqmod (Some user) answer = request user
heads_at Respmod (Some user) (Some answer) = response user answer
heads_at _ _ _ = missing

abbrev pub heads_of : Arrival → Heads
heads_of m = heads_at (point_of m.user) (request_of (user_head m.user m.side.head)) (response_of m.side.head)

-- the service of a point
abbrev pub service_of : Config → Point → Option ServicePoint
service_of config Reqmod = config.reqmod
service_of config Respmod = config.respmod

-- the address that the services are told of the user at this one: none, unless they are to be told it
abbrev pub told_of : Config → Option Ipv4Addr → Option Ipv4Addr
told_of config user = if config.client_ip then user else None

-- a request is offered by what this service says; it is told the address `from`, where there is one
pub record IsRequestOffer (service : Option ServicePoint) (said : Option Options) (limits : Limits) (from : Option Ipv4Addr)
    (user : RequestParts) (offer : Offered) : Type 0 where
  pub plan : IsPlanned (options_for service said) limits Reqmod (bare_path user.target) (known_length (request_framing user)) offer.plan
  pub text : AsksFor service from [] (offered_request user) [] offer

-- so is a response, whose service is told the field lines that are carried on as well
pub record IsResponseOffer (service : Option ServicePoint) (said : Option Options) (limits : Limits) (from : Option Ipv4Addr)
    (carried : List ℕ) (user : RequestParts) (answer : ResponseParts) (offer : Offered) : Type 0 where
  pub plan : IsPlanned (options_for service said) limits Respmod (bare_path user.target) (known_length (response_framing answer)) offer.plan
  pub text : AsksFor service from carried (offered_request user) (offered_response answer) offer

-- a message is offered by what this service says
abbrev pub IsOffer : Option ServicePoint → Option Options → Limits → (from : Option Ipv4Addr) → (carried : List ℕ) → Heads → Offered
    → Type 0
IsOffer service said limits from carried (request user) offer = IsRequestOffer service said limits from user offer
IsOffer service said limits from carried (response user answer) offer = IsResponseOffer service said limits from carried user answer offer
IsOffer service said limits from carried missing offer = ⊥

-- where a message goes: a request straight to its origin, or to the parent; a response to its user
abbrev pub GoesTo : Config → Heads → Option Route → Type 0
GoesTo config (request user) (Some route) = IsRoute config user route
GoesTo config (response user answer) None = ⊤
GoesTo config _ _ = ⊥

abbrev pub Goes : Config → Heads → Type 0
Goes config heads = (route : Option Route) × GoesTo config heads route

-- why a request goes nowhere: its host is unknown, or is the proxy itself; or its origin is in a network that is denied
abbrev pub IsWithoutRoute : Config → RequestParts → Reason → Type 0
IsWithoutRoute config user UnknownHost = IsUnrouted config user unrouted.Unknown
IsWithoutRoute config user Denied = IsUnrouted config user unrouted.Denied
IsWithoutRoute config user _ = ⊥

-- why a message does; a head may be missing
abbrev pub GoesNowhere : Config → Heads → Reason → Type 0
GoesNowhere config (request user) reason = IsWithoutRoute config user reason
GoesNowhere config missing OriginRefused = ⊤
GoesNowhere config _ _ = ⊥

-- the service's record serves no more, and the service wasn't asked for this very message
pub record IsStale (service : Option ServicePoint) (book : PointBook) (now : ℕ) (asked : Bool) : Type 0 where
  pub some : is_some service ≡ true
  pub asked_is : asked ≡ false
  pub serves : Serves book now → ⊥

-- the service of a message is to be asked before it is planned
abbrev pub IsAskedFirst : Grounds → Arrival → Type 0
IsAskedFirst by m = IsStale (service_of by.config (point_of m.user)) by.book by.now by.asked

-- a message is offered by what its point's service said: where there is a service, it did say something
pub record IsOfferBy (service : Option ServicePoint) (said : Option Options) (limits : Limits) (from : Option Ipv4Addr) (carried : List ℕ)
    (heads : Heads) (offer : Offered) : Type 0 where
  pub offer_is : IsOffer service said limits from carried heads offer
  pub heard : is_some service ≡ true → is_some said ≡ true

-- the plan of a message
pub record IsPlan (by : Grounds) (m : Arrival) (planned : Planned) : Type 0 where
  pub offer : IsOfferBy (service_of by.config (point_of m.user)) by.book.said by.limits (told_of by.config by.user) m.carried (heads_of m)
      planned.offer
  pub goes : GoesTo by.config (heads_of m) planned.route
  pub current : IsAskedFirst by m → ⊥

-- why a message has no plan: its service is to be asked first; it goes nowhere; or no memory was found where neither holds
abbrev pub HasNoPlan : Grounds → Arrival → Unplanned → Type 0
HasNoPlan by m Stale = Goes by.config (heads_of m) × IsAskedFirst by m
HasNoPlan by m (Refused NoMemory) = Goes by.config (heads_of m) × (IsAskedFirst by m → ⊥)
HasNoPlan by m (Refused reason) = GoesNowhere by.config (heads_of m) reason

-- whether the user of a message waits to be told to send its body
abbrev pub waits : Heads → Bool
waits (request user) = awaits_continue user
waits _ = false

-- whether a message may be sent again: a response isn't
abbrev pub repeats : Heads → Bool
repeats (request user) = may_repeat user
repeats _ = false

-- what is kept of a message's plan, and what is said of it
pub record IsKept (by : Grounds) (m : Arrival) (kept : Option (Box Planned Global)) (marks : Marks) : Type 0 where
  pub planned : Box Planned Global
  pub kept_is : kept ≡ Some planned
  pub plan : IsPlan by m planned.value
  pub offered : marks.offered ≡ is_some planned.value.offer.side
  pub waits_is : marks.waits ≡ waits (heads_of m)
  pub repeats_is : marks.repeatable ≡ repeats (heads_of m)

-- a message is planned: its plan is kept; or it has none, and what was kept before stays
abbrev pub Plans : Grounds → Arrival → (old new : Option (Box Planned Global)) → Result Marks Unplanned → Type 0
Plans by m old new (Ok marks) = IsKept by m new marks
Plans by m old new (Err unplanned) = (new ≡ old) × HasNoPlan by m unplanned

-- A message is planned by what its surroundings are said to have: their configuration, limits, books and moment, and the
-- user's address.
abbrev pub PlansBy : (config_is : Config → Type 0) → (limits_is : Limits → Type 0) → (book_is : Point → PointBook → Type 0)
    → (now_is : ℕ → Type 0)
    → (user_is : Option Ipv4Addr → Type 0) → (asked : Bool) → Arrival → (old new : Option (Box Planned Global)) → Result Marks Unplanned
    → Type 0
PlansBy config_is limits_is book_is now_is user_is asked m old new result =
    (config : Config) × config_is config × (limits : Limits) × limits_is limits
    × (book : PointBook) × book_is (point_of m.user) book × (now : ℕ) × now_is now
    × (user : Option Ipv4Addr) × user_is user × Plans (grounds config limits book now asked user) m old new result
