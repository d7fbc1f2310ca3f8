-- How a message begins to move.
use Rattle.std.specs.Prelude.{◌≡◌, ℕ, ◌+◌, ◌^◌, ◌<◌, ◌==◌, ◌||◌, Bool, true, false, [], Option, Some, None, Box, is_some}
use Rattle.std.specs.declared.alloc.Global.{Global}
use Rattle.trace_core.specs.History.{History}
use Rattle.exchange_core.specs.declared.state.CourseState.{CourseState}
use Rattle.exchange_core.specs.Course.{is_reused}
use Rattle.plan_rules.specs.declared.pace.Pace.{Pace}
use Rattle.proxy_config.specs.declared.config.Config.{Config}
use Rattle.proxy_rules.specs.Arrivals.{Arrival}
use Rattle.proxy_rules.specs.Beginnings.{MayBegin, service_end_of}
use Rattle.proxy_rules.specs.Running.{OwnEnds}
use Rattle.http_side.specs.declared.forward.OriginUse.{OriginUse}
use Rattle.http_side.specs.declared.forward.OriginUse.TheVariants.{Once, Fresh, Kept}
use Rattle.http_side.specs.declared.forward.NextServer.{NextServer}
use Rattle.http_side.specs.declared.forward.NextServer.TheVariants.{Origin}
use Rattle.http_side.specs.declared.forward.OriginWay.{OriginWay}
use Rattle.proxy_rules.specs.declared.route.Route.{Route}
use Rattle.shard_message.specs.declared.start.Manner.{Manner}
use Rattle.shard_message.specs.declared.planning.Planned.{Planned}

-- what a transaction is to begin with: the message and its plan, and how it moves
pub record Beginning : Type 0 where
  pub planned : Option (Box Planned Global)
  pub message : Arrival
  pub manner : Manner

abbrev pub beginning : Option (Box Planned Global) → Arrival → Manner → Beginning
beginning a b c = record { planned = a; message = b; manner = c }

-- the pace of a transaction that begins in this state of its course, by the moment and the configuration: its deadline is a second later
-- than the configured one
pub record IsPaceOf (now_is : ℕ → Type 0) (config_is : Config → Type 0) (state : CourseState) (pace : Pace) : Type 0 where
  pub config : Config
  pub config_is_so : config_is config
  pub moment : now_is pace.last_moved
  pub deadline : config.deadline + 1 < 2 ^ 64 → pace.deadline ≡ config.deadline + 1
  pub line : (pace.reused ≡ is_reused state.connection) × (pace.broken ≡ false)

-- The use of the origin's connection that a request goes out on in this state of its course: one that was kept; or it is closed after the
-- answer, where none is to be kept, or the proxy drains; or it may carry further requests.
abbrev pub IsUse : (kept closes : Bool) → OriginUse → Type 0
IsUse true closes origin = origin ≡ Kept
IsUse false true origin = origin ≡ Once
IsUse false false origin = origin ≡ Fresh

pub record IsUseOf (config_is : Config → Type 0) (state : CourseState) (origin : OriginUse) : Type 0 where
  pub config : Config
  pub config_is_so : config_is config
  pub use_is : IsUse state.kept ((config.keep_origins == 0) || state.draining) origin

-- a request goes to the server that its route names; a message that has none goes to no parent
abbrev pub next_by : Option Route → NextServer
next_by None = Origin
next_by (Some route) = route.next

-- how a request goes to its origin by this route, on a connection of this use
abbrev pub way_by : Option Route → OriginUse → OriginWay
way_by route connection = record { next = next_by route; connection = connection }

-- how a transaction moves that begins in this state of its course
pub record IsMannerOf (now_is : ℕ → Type 0) (config_is : Config → Type 0) (state : CourseState) (manner : Manner) : Type 0 where
  pub pace : IsPaceOf now_is config_is state manner.pace
  pub last : manner.last ≡ state.draining
  pub origin : IsUseOf config_is state manner.origin

-- A transaction with this history, pace and ends began with just that, over these connections.
pub record BeginsWith {E A W C H G : Type 0} (b : Beginning) (source : A) (line : Option W) (next : C) (history : History) (pace : Pace)
    (ends : OwnEnds E A W C H G) : Type 0 where
  pub planned : Box Planned Global
  pub planned_is : b.planned ≡ Some planned
  pub may : MayBegin b.message planned.value.offer (is_some line)
  pub history_is : history ≡ record { plan = planned.value.offer.plan; events = [] }
  pub pace_is : pace ≡ b.manner.pace
  pub message : (ends.source ≡ b.message.side) × (ends.maker.user ≡ b.message.user)
  pub last : ends.maker.last ≡ b.manner.last
  pub origin : b.message.user ≡ None → ends.maker.origin ≡ way_by planned.value.route b.manner.origin
  pub service : ends.service ≡ service_end_of planned.value.offer.side line
  pub wires : (ends.source_wire ≡ source) × (ends.next_wire ≡ next)
