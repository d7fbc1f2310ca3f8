-- What a lease shows.
use Rattle.std.specs.Prelude.{Bool, true, false}
use Rattle.service_pool.specs.declared.lease.Source.{Source}
use Rattle.service_pool.specs.declared.lease.Source.TheVariants.{Picked, Idle, Fresh}

-- whether its connection was idle when it was taken, and whether the test of that take picked it; neither once it was replaced
pub record Leased : Type 0 where
  pub reused : Bool
  pub picked : Bool

-- what it shows, by how its connection was found
abbrev pub leased_of : Source → Leased
leased_of Picked = record { reused = true; picked = true }
leased_of Idle = record { reused = true; picked = false }
leased_of Fresh = record { reused = false; picked = false }
