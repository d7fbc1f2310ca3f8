-- A connection to a service that is lent with its lease.
use Rattle.std.proofs.Common.{◌≡◌, ◌∙◌, Option, Result, Ok, Err, IfOk, sym, ap}
use Rattle.std.specs.declared.net.socket_addr.SocketAddrV4.{SocketAddrV4}
use Rattle.trace_core.specs.declared.history.Point.{Point}

-- one that leads to the service of the point that was asked for leads to that of its lease
pub serves_lease : {W L E C : Type 0} (point_of : L → Point) (to : W → Option SocketAddrV4) (config_is : C → Type 0)
    (place : C → Point → Option SocketAddrV4) (point : Point) (lent : Result (W × L) E)
    → IfOk lent (λ lent. point_of lent.1 ≡ point) → IfOk lent (λ lent. (config : C) × config_is config × (to lent.0 ≡ place config point))
    → IfOk lent (λ lent. (config : C) × config_is config × (to lent.0 ≡ place config (point_of lent.1)))
serves_lease point_of to config_is place point (Ok lent) of_point leads =
    (leads.0, leads.1, leads.2 ∙ ap (λ (at : Point). place leads.0 at) (sym of_point))
serves_lease point_of to config_is place point (Err fault) of_point leads = tt
