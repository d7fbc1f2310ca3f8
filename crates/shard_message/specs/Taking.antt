-- Whether a connection to an origin that was dialed is one that an earlier exchange left.
use Rattle.std.specs.Prelude.{Bool, true, false, Option, Some, None, Result, Ok, Err}
use Rattle.shard_message.specs.declared.outside.Dialed.{Dialed}

-- the connection that was taken of those that lie idle, where one was
abbrev pub taken_if : {W : Type 0} → (kept : Bool) → W → Option W
taken_if true wire = Some wire
taken_if false wire = None

abbrev pub taken_of : {W E : Type 0} → Result (Dialed W) E → Option W
taken_of (Ok dialed) = taken_if dialed.is_kept dialed.wire
taken_of (Err fault) = None
