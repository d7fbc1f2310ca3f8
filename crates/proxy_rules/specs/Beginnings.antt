-- When a transaction of the proxy's own sides begins.
use Rattle.std.specs.Prelude.{◌≡◌, [], Bool, Option, Some, None, is_some}
use Rattle.trace_core.specs.History.{seen}
use Rattle.adapt_turn.specs.declared.ends.ServiceEnd.{ServiceEnd}
use Rattle.http_relay.specs.declared.side.head.SourceHead.TheVariants.{Unread}
use Rattle.http_relay.specs.Source.{Agrees}
use Rattle.icap_client.specs.Turns.{Service}
use Rattle.proxy_rules.specs.Arrivals.{Arrival, point_of}
use Rattle.proxy_rules.specs.Offers.{Offered}

-- the offer is of a message of this kind, whose head was read, of whose body nothing was reported, whose side has no fault, and
-- which has the length that the plan knows; a connection to the service is there exactly where the message is offered
pub record MayBegin (m : Arrival) (o : Offered) (connected : Bool) : Type 0 where
  pub point : point_of m.user ≡ o.plan.point
  pub line : is_some o.side ≡ connected
  pub read : m.side.head ≡ Unread → ⊥
  pub fault : m.side.fault ≡ None
  pub agrees : Agrees (seen o.plan []) m.side.body

-- the service's side over its connection
abbrev pub service_end_of : {W : Type 0} → Option Service → Option W → Option (ServiceEnd Service W)
service_end_of None wire = None
service_end_of (Some side) wire = Some (record { side = side; wire = wire })
