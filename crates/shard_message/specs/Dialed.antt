-- Where the connection to a message's origin leads.
use Rattle.std.specs.Prelude.{Option, Some, None, Box}
use Rattle.std.specs.declared.alloc.Global.{Global}
use Rattle.std.specs.declared.net.socket_addr.SocketAddrV4.{SocketAddrV4}
use Rattle.proxy_rules.specs.declared.route.Route.{Route}
use Rattle.shard_message.specs.declared.planning.Planned.{Planned}

-- there is a route, and it leads to its address
abbrev pub LeadsTo : (leads : SocketAddrV4 → Type 0) → Option Route → Type 0
LeadsTo leads None = ⊥
LeadsTo leads (Some route) = leads route.address

-- to that of this plan
abbrev pub LeadsBy : (leads : SocketAddrV4 → Type 0) → Option (Box Planned Global) → Type 0
LeadsBy leads None = ⊥
LeadsBy leads (Some planned) = LeadsTo leads planned.value.route

-- to that of the plan for which this was reserved
abbrev pub LeadsAsPlanned : {R : Type 0} → (planned : R → Option (Box Planned Global)) → (leads : SocketAddrV4 → Type 0) → Option R → Type 0
LeadsAsPlanned planned leads None = ⊥
LeadsAsPlanned planned leads (Some room) = LeadsBy leads (planned room)
