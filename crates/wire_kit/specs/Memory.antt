-- What a wire in memory has done so far.
use Rattle.std.specs.Prelude.{◌≡◌, ℕ, ◌+◌, ◌^◌, ◌-◌, ◌<◌, List, [], ◌∷◌, take}
use Rattle.wire_kit.specs.Past.{Past}
use Rattle.wire_kit.specs.declared.memory.MemoryWire.{MemoryWire}
use Rattle.wire_kit.specs.declared.stream.Stream.{Stream}
use Rattle.wire_kit.specs.declared.stream.WriteAnswer.{WriteAnswer}
use Rattle.wire_kit.specs.declared.stream.WriteAnswer.TheVariants.{Took, Wait, Fault}

-- the count is n; a full counter counts no further
abbrev pub Counts : ℕ → ℕ → Type 0
Counts counter n = counter < 2 ^ 64 - 1 → n ≡ counter

-- the stream's bytes and counters are those of this past
pub record StreamPast (s : Stream) (p : Past) : Type 0 where
  pub read : p.read ≡ take s.read_len s.input.items
  pub taken : p.taken ≡ s.taken.items
  pub ends : Counts s.ends p.ends
  pub read_waits : Counts s.read_waits p.read_waits
  pub write_waits : Counts s.write_waits p.write_waits
  pub faults : Counts s.faults p.faults
  pub reads : Counts s.reads p.reads
  pub writes : Counts s.writes p.writes

-- a memory wire's past is its stream's
abbrev pub IsPast : MemoryWire → Past → Type 0
IsPast wire p = StreamPast wire.stream p

-- all that these answers let a wire take
abbrev pub total_room : List WriteAnswer → ℕ
total_room [] = 0
total_room (Took n ∷ answers) = n + total_room answers
total_room (Wait ∷ answers) = total_room answers
total_room (Fault ∷ answers) = total_room answers
