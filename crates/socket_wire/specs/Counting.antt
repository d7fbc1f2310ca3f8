-- Which pasts have a wire's counts.
use Rattle.std.specs.Prelude.{◌≡◌, ℕ, length}
use Rattle.wire_kit.specs.Past.{Past}
use Rattle.wire_kit.specs.Memory.{Counts}
use Rattle.wire_kit.specs.declared.wire.Got.{Got}
use Rattle.wire_kit.specs.declared.wire.Got.TheVariants.{Bytes}
use Rattle.wire_kit.specs.declared.wire.Put.{Put}
use Rattle.wire_kit.specs.declared.wire.Put.TheVariants.{Took}
use Rattle.socket_wire.specs.declared.tally.Tally.{Tally}

pub record HasCounts (tally : Tally) (p : Past) : Type 0 where
  pub read : length p.read ≡ tally.read
  pub taken : length p.taken ≡ tally.taken
  pub ends : Counts tally.ends p.ends
  pub read_waits : Counts tally.read_waits p.read_waits
  pub write_waits : Counts tally.write_waits p.write_waits
  pub faults : Counts tally.faults p.faults
  pub reads : Counts tally.reads p.reads
  pub writes : Counts tally.writes p.writes

-- how many bytes a read gave
abbrev pub given_by : Got → ℕ
given_by (Bytes n) = n
given_by _ = 0

-- how many bytes a write took
abbrev pub taken_by : Put → ℕ
taken_by (Took n) = n
taken_by _ = 0
