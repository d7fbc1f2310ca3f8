-- The newest acts of a connector.
use Rattle.std.specs.Prelude.{◌≡◌, List, slice_get}
use Rattle.service_pool.specs.declared.connector.Act.{Act}
use Rattle.service_pool.specs.declared.latest.Latest.{Latest}

-- these are the newest two acts of the list, the newest one first; fewer where it has fewer
pub record IsLatest (latest : Latest) (acts : List Act) : Type 0 where
  pub last : latest.last ≡ slice_get acts 0
  pub before : latest.before ≡ slice_get acts 1
