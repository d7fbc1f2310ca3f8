-- When a transaction gives up its connection to the service.
use Rattle.std.specs.Prelude.{◌≡◌, true}
use Rattle.trace_core.specs.History.{is_service_over}
use Rattle.trace_core.specs.declared.history.Seen.{Seen}

-- the service's exchange is over for the transaction
abbrev pub MayFree : Seen → Type 0
MayFree x = is_service_over x ≡ true
